-- The entries that are kept by the last fragment that covers them are those that the work line keeps, and the entry that a position is written from is the one
-- that the walk over the work line stops at.
-- Assumes nothing.
use Prim.Native.Nat.{ℕ, zero, suc, ◌+◌, ◌-◌, ◌≤◌, ◌<◌}
use mathlib.Core.Path.{◌≡◌, refl, sym, ap, ◌∙◌}
use mathlib.Core.Bool.{Bool, true, false, ◌&&◌}
use mathlib.Core.List.{List, [], ◌∷◌, ◌++◌, append_assoc}
use mathlib.Core.Option.{Option, none, some}
use native.Mathlib.Omega.{arith}
use lib.Dec.{eqb, leb, ltb, lit≤}
use lib.ListN.{drop, get_or, length, length-append, length-drop, length-replicate, length-take, replicate, take, get_or-replicate, get_or-append}
use lib.Seq.{get_or-append-add, get_or-drop, get_or-take}
use borrow.Author.Tests.{eq-eqb, ne_eqb, lt-ltb, le-ltb, leb-true, leb-false, ltb-true, ltb-false}
use Rattle.format.specs.Lists.{over, pick}
use Rattle.format.specs.Header.{Form}
use Rattle.format.specs.Mode.{Addr11, Addr16, Addr19, Addr24, Byte, Class, Other, bit, class_of, on_site, size_of, touched, touched_of}
use Rattle.format.specs.ModeStep.{keeps_by, step_keeps_of}
use Rattle.format.specs.Outcome.{Outcome, fine, refused, and_then, fold}
use Rattle.format.specs.Pairs.{Content, Relocation, placed}
use Rattle.format.specs.Placing.{Walk, extent, walk_by}
use Rattle.format.specs.Tables.{Tables, offset, rank}
use Rattle.format.specs.WorkLine.{Worked, beyond, fresh, in_line, padded, partly, step_all, step_at, work_line}
use Rattle.laws.specs.Rows.{from}
use Rattle.sites.specs.Columns.{fragment_at, fragments_in}
use Rattle.laws.specs.PairRows.{walk_of}
use Rattle.order.specs.Writes.{cell_at, cell_of, cells_of, writes}
use Rattle.covering.specs.Covering.{covered, entry_of, in_content, kept_from, kept_with}

abbrev ones : ℕ → List ℕ
ones n = replicate n 1

abbrev zeros : ℕ → List ℕ
zeros n = replicate n 0

-- ------------------------------------------------------------------ a part of a list laid over

patched : (n e : ℕ) (ys ks : List ℕ) → n + length ys ≤ length ks
    → get_or (take n ks ++ (ys ++ drop (length ys) (drop n ks))) e 0 ≡ pick (leb n e && ltb e (n + length ys)) (get_or ys (e - n) 0) (get_or ks e 0)
patched n e ys ks h = first (leb n e) refl
  where
    taken : length (take n ks) ≡ n
    taken = length-take n ks ∙ omega arith

    second : n ≤ e → (b : Bool) → ltb e (n + length ys) ≡ b → get_or (take n ks ++ (ys ++ drop (length ys) (drop n ks))) e 0 ≡ pick b (get_or ys (e - n) 0) (get_or ks e 0)
    second l true s =
        let z : e ≡ length (take n ks) + (e - n) = omega (arith, taken) in
        ap (λ (i : ℕ). get_or (take n ks ++ (ys ++ drop (length ys) (drop n ks))) i 0) z
        ∙ (get_or-append-add (take n ks) (ys ++ drop (length ys) (drop n ks)) (e - n) 0
        ∙ get_or-append ys (drop (length ys) (drop n ks)) 0 (e - n) (omega (arith, ltb-true e (n + length ys) s)))
    second l false s =
        let z : e ≡ length (take n ks) + (length ys + (e - n - length ys)) = omega (arith, taken, ltb-false e (n + length ys) s) in
        let y : n + (length ys + (e - n - length ys)) ≡ e = omega (arith, ltb-false e (n + length ys) s) in
        ap (λ (i : ℕ). get_or (take n ks ++ (ys ++ drop (length ys) (drop n ks))) i 0) z
        ∙ (get_or-append-add (take n ks) (ys ++ drop (length ys) (drop n ks)) (length ys + (e - n - length ys)) 0
        ∙ (get_or-append-add ys (drop (length ys) (drop n ks)) (e - n - length ys) 0
        ∙ (get_or-drop (length ys) (drop n ks) (e - n - length ys) 0
        ∙ (get_or-drop n ks (length ys + (e - n - length ys)) 0 ∙ ap (λ (i : ℕ). get_or ks i 0) y))))

    first : (b : Bool) → leb n e ≡ b → get_or (take n ks ++ (ys ++ drop (length ys) (drop n ks))) e 0 ≡ pick (b && ltb e (n + length ys)) (get_or ys (e - n) 0) (get_or ks e 0)
    first true s = second (leb-true n e s) (ltb e (n + length ys)) refl
    first false s = let l : e < n = leb-false n e s in get_or-append (take n ks) (ys ++ drop (length ys) (drop n ks)) 0 e (omega (arith, taken)) ∙ get_or-take n ks e 0 l

-- ones, then zeros
flags : (s t k : ℕ) → k < s + t → eqb (get_or (ones s ++ zeros t) k 0) 1 ≡ ltb k s
flags s t k h = go (ltb k s) refl
  where
    go : (b : Bool) → ltb k s ≡ b → eqb (get_or (ones s ++ zeros t) k 0) 1 ≡ b
    go true e = let l : k < s = ltb-true k s e in rw (get_or-append (ones s) (zeros t) 0 k (omega (arith, length-replicate {A = ℕ} s 1)), get_or-replicate {A = ℕ} s k 1 0 l)
    go false e =
        let l : s ≤ k = ltb-false k s e in
        let z : k ≡ length (ones s) + (k - s) = omega (arith, length-replicate {A = ℕ} s 1) in
        let at : get_or (ones s ++ zeros t) k 0 ≡ 0 =
        ap (λ (i : ℕ). get_or (ones s ++ zeros t) i 0) z ∙ (get_or-append-add (ones s) (zeros t) (k - s) 0 ∙ get_or-replicate {A = ℕ} t (k - s) 0 0 (omega arith)) in
        rw at

-- ------------------------------------------------------------------ one fragment

moved : (n e s : ℕ) → n ≤ e → ltb (e - n) s ≡ ltb e (n + s)
moved n e s l = go (ltb (e - n) s) refl
  where
    go : (b : Bool) → ltb (e - n) s ≡ b → b ≡ ltb e (n + s)
    go true h = sym (lt-ltb e (n + s) (omega (arith, ltb-true (e - n) s h)))
    go false h = sym (le-ltb e (n + s) (omega (arith, ltb-false (e - n) s h)))

flagged : (s t : ℕ) → s ≤ t → length (ones s ++ zeros (t - s)) ≡ t
flagged s t l = length-append (ones s) (zeros (t - s)) ∙ omega (arith, length-replicate {A = ℕ} s 1, length-replicate {A = ℕ} (t - s) 0)

laid : (s t n e : ℕ) (ks : List ℕ) → s ≤ t → n + t ≤ length ks
    → eqb (get_or (take n ks ++ over (ones s ++ zeros (t - s)) (drop n ks)) e 0) 1 ≡ pick (leb n e && ltb e (n + t)) (ltb e (n + s)) (eqb (get_or ks e 0) 1)
unfolding over
laid s t n e ks l h =
    ap (λ (x : ℕ). eqb x 1) (patched n e (ones s ++ zeros (t - s)) ks (omega (arith, flagged s t l)))
    ∙ (ap (λ (z : ℕ). eqb (pick (leb n e && ltb e (n + z)) (get_or (ones s ++ zeros (t - s)) (e - n) 0) (get_or ks e 0)) 1) (flagged s t l)
    ∙ go (leb n e) refl (ltb e (n + t)) refl)
  where
    go : (b : Bool) → leb n e ≡ b → (c : Bool) → ltb e (n + t) ≡ c
        → eqb (pick (b && c) (get_or (ones s ++ zeros (t - s)) (e - n) 0) (get_or ks e 0)) 1 ≡ pick (b && c) (ltb e (n + s)) (eqb (get_or ks e 0) 1)
    go true eb true ec = flags s (t - s) (e - n) (omega (arith, leb-true n e eb, ltb-true e (n + t) ec)) ∙ moved n e s (leb-true n e eb)
    go true eb false ec = refl
    go false eb c ec = refl

as_long : (s t n : ℕ) (ks : List ℕ) → s ≤ t → n + t ≤ length ks → length (take n ks ++ over (ones s ++ zeros (t - s)) (drop n ks)) ≡ length ks
unfolding over
as_long s t n ks l h =
    let ys : List ℕ = ones s ++ zeros (t - s) in
    length-append (take n ks) (ys ++ drop (length ys) (drop n ks))
    ∙ (ap (λ (x : ℕ). length (take n ks) + x) (length-append ys (drop (length ys) (drop n ks)))
    ∙ omega (arith, length-take n ks, length-drop (length ys) (drop n ks), length-drop n ks, flagged s t l))

fewer-kept : (c : Class) (b : Bool) → size_of c ≤ touched_of c b
fewer-kept Addr19 b = lit≤ tt
fewer-kept Addr11 b = lit≤ tt
fewer-kept Addr24 b = lit≤ tt
fewer-kept Addr16 b = lit≤ tt
fewer-kept Byte b = lit≤ tt
fewer-kept Other true = lit≤ tt
fewer-kept Other false = lit≤ tt

module _ (m n : ℕ) (ks : List ℕ) (h : n + touched m ≤ length ks) where
  pub a-fragment-keeps : (e : ℕ) → eqb (get_or (partly n (step_keeps_of m) ks) e 0) 1 ≡ pick (leb n e && ltb e (n + touched m)) (ltb e (n + on_site m)) (eqb (get_or ks e 0) 1)
  unfolding partly step_keeps_of keeps_by touched on_site
  a-fragment-keeps e = laid (size_of (class_of m)) (touched_of (class_of m) (bit 8 m)) n e ks (fewer-kept (class_of m) (bit 8 m)) h

  pub a-fragment-keeps-length : length (partly n (step_keeps_of m) ks) ≡ length ks
  unfolding partly step_keeps_of keeps_by touched on_site
  a-fragment-keeps-length = as_long (size_of (class_of m)) (touched_of (class_of m) (bit 8 m)) n ks (fewer-kept (class_of m) (bit 8 m)) h

-- ------------------------------------------------------------------ all fragments

module _ (fm : Form) (ms es xs : List ℕ) (n place e : ℕ) where
  -- the entries that a line keeps, and those that the code keeps
  pub all_keep : (c i k r : ℕ) (w : Worked) → fm.address_length + n ≤ length w.work.keeps → fold (in_line fm.address_length n place) k (from (fragment_at ms es xs) i c) ≡ fine r
      → eqb (get_or (step_all fm (from (fragment_at ms es xs) i c) w).work.keeps e 0) 1 ≡ kept_from fm.address_length ms es e i c (eqb (get_or w.work.keeps e 0) 1)
  unfolding step_all step_at kept_from kept_with covered from fragment_at fold in_line beyond
  all_keep zero i k r w l f = refl
  all_keep (suc c) i k r w l f = go (leb fm.address_length (get_or es i 0)) refl (ltb (fm.address_length + n) (get_or es i 0 + touched (get_or ms i 0))) refl f (λ k' w' l' f'. all_keep c (suc i) k' r w' l' f')
    where
      go : (b : Bool) → leb fm.address_length (get_or es i 0) ≡ b → (d : Bool) → ltb (fm.address_length + n) (get_or es i 0 + touched (get_or ms i 0)) ≡ d
          → and_then (pick (b && d) (refused 10 place) (fine (suc k))) (λ k'. fold (in_line fm.address_length n place) k' (from (fragment_at ms es xs) (suc i) c)) ≡ fine r
          → ((k' : ℕ) (w' : Worked) → fm.address_length + n ≤ length w'.work.keeps → fold (in_line fm.address_length n place) k' (from (fragment_at ms es xs) (suc i) c) ≡ fine r
          → eqb (get_or (step_all fm (from (fragment_at ms es xs) (suc i) c) w').work.keeps e 0) 1 ≡ kept_from fm.address_length ms es e (suc i) c (eqb (get_or w'.work.keeps e 0) 1))
          → eqb (get_or (step_all fm (from (fragment_at ms es xs) (suc i) c) (pick b (step_at fm.big (fragment_at ms es xs i) w) w)).work.keeps e 0) 1
          ≡ kept_from fm.address_length ms es e (suc i) c (pick (b && (leb (get_or es i 0) e && ltb e (get_or es i 0 + touched (get_or ms i 0)))) (ltb e (get_or es i 0 + on_site (get_or ms i 0))) (eqb (get_or w.work.keeps e 0) 1))
      go true eb true ed h on = absurd (unfine h)
        where
          unfine : refused 10 place ≡ fine r → ⊥
          unfine q = let z : ◌≡◌ {A = ℕ} 0 1 = cc in omega arith
      go true eb false ed h on =
          let fits : get_or es i 0 + touched (get_or ms i 0) ≤ length w.work.keeps = omega (arith, ltb-false (fm.address_length + n) (get_or es i 0 + touched (get_or ms i 0)) ed) in
          on (suc k) (step_at fm.big (fragment_at ms es xs i) w) (omega (arith, a-fragment-keeps-length (get_or ms i 0) (get_or es i 0) w.work.keeps fits)) h
          ∙ ap (λ (x : Bool). kept_from fm.address_length ms es e (suc i) c x) (a-fragment-keeps (get_or ms i 0) (get_or es i 0) w.work.keeps fits e)
      go false eb d ed h on = on (suc k) w l h

-- ------------------------------------------------------------------ the line before any fragment, and the walk

fresh_keeps : (a e : ℕ) (bs : List ℕ) → e < a + length bs → eqb (get_or (fresh a bs).work.keeps e 0) 1 ≡ in_content a (a + length bs) e
unfolding fresh work_line padded in_content
fresh_keeps a e bs l = ap (λ (x : List ℕ). eqb (get_or x e 0) 1) (append_assoc (zeros a) (ones (length bs)) (zeros (260 - (a + length bs)))) ∙ go (leb a e) refl
  where
    tail : List ℕ
    tail = ones (length bs) ++ zeros (260 - (a + length bs))

    go : (b : Bool) → leb a e ≡ b → eqb (get_or (zeros a ++ tail) e 0) 1 ≡ (b && ltb e (a + length bs))
    go true h =
        let k : a ≤ e = leb-true a e h in
        let z : e ≡ length (zeros a) + (e - a) = omega (arith, length-replicate {A = ℕ} a 0) in
        ap (λ (i : ℕ). eqb (get_or (zeros a ++ tail) i 0) 1) z
        ∙ (ap (λ (i : ℕ). eqb i 1) (get_or-append-add (zeros a) tail (e - a) 0)
        ∙ (flags (length bs) (260 - (a + length bs)) (e - a) (omega arith) ∙ moved a e (length bs) k))
    go false h =
        let k : e < a = leb-false a e h in
        rw (get_or-append (zeros a) tail 0 e (omega (arith, length-replicate {A = ℕ} a 0)), get_or-replicate {A = ℕ} a e 0 0 k)

module _ (w : Walk) (a : ℕ) (ms es : List ℕ) (c entries : ℕ) (kept : (j : ℕ) → j < entries → eqb (get_or w.work.keeps j 0) 1 ≡ kept_from a ms es j 0 c (in_content a entries j)) where
  -- from an entry on, where the walk is at a position
  pub the-entry : (m e p behind : ℕ) → e + m ≡ entries → p + behind < w.size
      → cell_at (cells_of w m e p) (w.start + (p + behind)) ≡ pick (ltb (entry_of a ms es c entries e m behind) entries) (some (cell_of w (entry_of a ms es c entries e m behind) (p + behind))) none
  unfolding cells_of cell_at entry_of cell_of
  the-entry zero e p behind s l = rw (le-ltb e entries (omega arith))
  the-entry (suc m) e p behind s l =
      rw (lt-ltb p w.size (omega arith), kept e (omega arith))
      (go (kept_from a ms es e 0 c (in_content a entries e)) behind l (λ q b t. the-entry m (suc e) q b (omega arith) t))
    where
      go : (k : Bool) (b : ℕ) → p + b < w.size
          → ((q d : ℕ) → q + d < w.size → cell_at (cells_of w m (suc e) q) (w.start + (q + d)) ≡ pick (ltb (entry_of a ms es c entries (suc e) m d) entries) (some (cell_of w (entry_of a ms es c entries (suc e) m d) (q + d))) none)
          → cell_at (pick k (cell_of w e p ∷ cells_of w m (suc e) (suc p)) (cells_of w m (suc e) p)) (w.start + (p + b))
          ≡ pick (ltb (pick k (pick (eqb b 0) e (entry_of a ms es c entries (suc e) m (b - 1))) (entry_of a ms es c entries (suc e) m b)) entries)
          (some (cell_of w (pick k (pick (eqb b 0) e (entry_of a ms es c entries (suc e) m (b - 1))) (entry_of a ms es c entries (suc e) m b)) (p + b))) none
      go false b t on = on p b t
      go true zero t on = let z : p + 0 ≡ p = omega arith in rw (z, eq-eqb (w.start + p) (w.start + p) refl, lt-ltb e entries (omega arith))
      go true (suc b) t on =
          let z : p + suc b ≡ suc p + b = omega arith in
          let y : suc b - 1 ≡ b = omega arith in
          rw (z, ne_eqb (w.start + p) (w.start + (suc p + b)) (λ f. let x : ⊥ = omega arith in x), ne_eqb (suc b) 0 (λ f. let x : ⊥ = omega arith in x), y) (on (suc p) b (omega arith))

long-enough : (a n k : ℕ) → a + n ≤ length (zeros a ++ (ones n ++ zeros k))
long-enough a n k = omega (arith, length-append (zeros a) (ones n ++ zeros k), length-append (ones n) (zeros k), length-replicate {A = ℕ} a 0, length-replicate {A = ℕ} n 1)

fresh-long : (a : ℕ) (bs : List ℕ) → a + length bs ≤ length (fresh a bs).work.keeps
unfolding fresh work_line padded
fresh-long a bs = rw (append_assoc (zeros a) (ones (length bs)) (zeros (260 - (a + length bs)))) (long-enough a (length bs) (260 - (a + length bs)))

-- The entry that is found for a position is the one whose cell the pair writes there; where none is found, the pair does not write there.
pub the-marked-entry-is-written : (fm : Form) (t : Tables) (place id : ℕ) (c : Content) (r : Relocation) (ms es xs : List ℕ) (n k behind : ℕ)
    → rank 0 t.areas r.area ≡ some id → r.fragments ≡ fragments_in ms es xs n → fold (in_line fm.address_length (length c.bytes) place) 0 r.fragments ≡ fine k
    → c.address + behind < extent t.areas r.area
    → cell_at (writes fm t (record { place = place; end = 0; body = placed c r })) (offset t.areas r.area + (c.address + behind))
    ≡ pick (ltb (entry_of fm.address_length ms es n (fm.address_length + length c.bytes) 0 (fm.address_length + length c.bytes) behind) (fm.address_length + length c.bytes))
    (some (cell_of (walk_of fm t place id c r) (entry_of fm.address_length ms es n (fm.address_length + length c.bytes) 0 (fm.address_length + length c.bytes) behind) (c.address + behind))) none
unfolding writes walk_of walk_by fragments_in
the-marked-entry-is-written fm t place id c r ms es xs n k behind ranked same fits inside =
    let entries : ℕ = fm.address_length + length c.bytes in
    let kept : (j : ℕ) → j < entries → eqb (get_or (walk_of fm t place id c r).work.keeps j 0) 1 ≡ kept_from fm.address_length ms es j 0 n (in_content fm.address_length entries j) = λ j l.
    rw same (all_keep fm ms es xs (length c.bytes) place j n 0 0 k (fresh fm.address_length c.bytes) (fresh-long fm.address_length c.bytes) (rw same at fits))
    ∙ ap (λ (b : Bool). kept_from fm.address_length ms es j 0 n b) (fresh_keeps fm.address_length j c.bytes l) in
    rw ranked (the-entry (walk_of fm t place id c r) fm.address_length ms es n entries kept entries 0 c.address behind (omega arith) inside)
