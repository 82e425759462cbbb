-- What the proof of a pair without fragments cites: a walk over entries that are all kept lays the content down as it is.
-- Assumes nothing.
use Prim.Native.Nat.{ℕ, zero, suc, ◌+◌, ◌-◌, ◌≤◌, ◌<◌}
use mathlib.Core.Path.{◌≡◌, refl, sym, ap, ◌∙◌}
use mathlib.Core.Bool.{Bool, true, false, not, ◌&&◌}
use mathlib.Core.List.{List, [], ◌∷◌, ◌++◌}
use native.Mathlib.Nat.{add-zero, suc-add}
use native.Mathlib.Omega.{arith}
use mir.Val.{Fits}
use mir.Syntax.{w64}
use lib.Dec.{ltb, leb}
use lib.ListN.{length, get_or, set, take, replicate, length-append, length-replicate, get_or-replicate, get_or-append}
use lib.Seq.{sets, take-nil, take_all, take-take, length-take-le, get_or-append-add}
use borrow.Author.Rules.{rules}
use borrow.Author.Tests.{lt-ltb, le-leb, lt-leb, ltb-true, ltb-false, leb-true, leb-false, not-true, not-false}
use Rattle.format.specs.Lists.{pick}
use Rattle.format.specs.WorkLine.{padded}
use Rattle.sites.specs.declared.Site.{Site}
use Rattle.sites.specs.Site.{Ready, is_ready}
use Rattle.sites.proofs.Fitting.{ready_by}
use Rattle.images.specs.Count.{Filled}
use Rattle.images.specs.Image.{image_walk, image_of, plain_values, plain_masks, Plain, Written}
use Rattle.images.proofs.CountLaws.{known-then, known-still}
use Rattle.images.proofs.ImageLaws.{out_of}

-- ------------------------------------------------------------------ a work line without fragments

module _ (a n : ℕ) (ys : List ℕ) where
  pad-low : (i : ℕ) → i < a → get_or (padded a n ys) i 0 ≡ 0
  unfolding padded
  pad-low i h =
      get_or-append (replicate a 0 ++ ys) (replicate (260 - (a + n)) 0) 0 i (simp (length-append, length-replicate) (omega arith))
      ∙ (get_or-append (replicate a 0) ys 0 i (simp length-replicate h) ∙ get_or-replicate a i 0 0 h)

  pad-in : (i : ℕ) → i < length ys → get_or (padded a n ys) (a + i) 0 ≡ get_or ys i 0
  unfolding padded
  pad-in i h =
      get_or-append (replicate a 0 ++ ys) (replicate (260 - (a + n)) 0) 0 (a + i) (simp (length-append, length-replicate) (omega arith))
      ∙ (ap (λ (k : ℕ). get_or (replicate a 0 ++ ys) (k + i) 0) (sym (length-replicate a 0)) ∙ get_or-append-add (replicate a 0) ys i 0)

-- ------------------------------------------------------------------ the walk over it

module _ (start size : ℕ) (ws keeps : List ℕ) where
  -- an entry that is not kept
  passed : (m e p : ℕ) (image : List ℕ) → p < size → get_or keeps e 0 ≡ 0 → image_walk start size ws keeps (suc m) e p image ≡ image_walk start size ws keeps m (suc e) p image
  unfolding image_walk
  passed m e p image h z = rw (lt-ltb p size h, z, add-zero)

  -- one that is
  written : (m e p : ℕ) (image : List ℕ) → p < size → get_or keeps e 0 ≡ 1
      → image_walk start size ws keeps (suc m) e p image ≡ image_walk start size ws keeps m (suc e) (p + 1) (set image (start + p) (get_or ws e 0))
  unfolding image_walk
  written m e p image h z = rw (lt-ltb p size h, z)

skip : (start size : ℕ) (ws keeps : List ℕ) (k m e p : ℕ) (image : List ℕ) → p < size → ((i : ℕ) → i < k → get_or keeps (e + i) 0 ≡ 0)
    → image_walk start size ws keeps (k + m) e p image ≡ image_walk start size ws keeps m (e + k) p image
skip start size ws keeps zero m e p image h f =
    let a : 0 + m ≡ m = omega arith in
    let b : e ≡ e + 0 = omega arith in
    ap (λ (y : ℕ). image_walk start size ws keeps y e p image) a ∙ ap (λ (y : ℕ). image_walk start size ws keeps m y p image) b
skip start size ws keeps (suc k) m e p image h f =
    let b : suc e + k ≡ e + suc k = omega arith in
    let z : e + 0 ≡ e = omega arith in
    ap (λ (y : ℕ). image_walk start size ws keeps y e p image) (suc-add k m)
    ∙ (passed start size ws keeps (k + m) e p image h (rw z at (f 0 (omega arith)))
    ∙ (skip start size ws keeps k m (suc e) p image h (λ i l. let c : e + suc i ≡ suc e + i = omega arith in rw c at (f (suc i) (omega arith)))
    ∙ ap (λ (y : ℕ). image_walk start size ws keeps m y p image) b))

either : {C : Type 0} (p size : ℕ) → (p < size → C) → (size ≤ p → C) → C
either {C} p size f g = go (ltb p size) refl
  where
    go : (b : Bool) → ltb p size ≡ b → C
    go true e = f (ltb-true p size e)
    go false e = g (ltb-false p size e)

lay : (start size : ℕ) (ws keeps xs : List ℕ) (e p : ℕ) (image : List ℕ) → ((i : ℕ) → i < length xs → get_or keeps (e + i) 0 ≡ 1) → ((i : ℕ) → i < length xs → get_or ws (e + i) 0 ≡ get_or xs i 0)
    → image_walk start size ws keeps (length xs) e p image ≡ sets image (start + p) (take (size - p) xs)
unfolding image_walk
lay start size ws keeps [] e p image f g = rw (take-nil (size - p))
lay start size ws keeps (x ∷ xs) e p image f g =
    let z : e + 0 ≡ e = omega arith in
    either p size
    (λ h.
    let a : suc (size - (p + 1)) ≡ size - p = omega arith in
    let b : start + (p + 1) ≡ suc (start + p) = omega arith in
    written start size ws keeps (length xs) e p image h (rw z at (f 0 (omega arith)))
    ∙ (ap (λ (v : ℕ). image_walk start size ws keeps (length xs) (suc e) (p + 1) (set image (start + p) v)) (rw z at (g 0 (omega arith)))
    ∙ (lay start size ws keeps xs (suc e) (p + 1) (set image (start + p) x)
    (λ i l. let c : e + suc i ≡ suc e + i = omega arith in rw c at (f (suc i) (omega arith)))
    (λ i l. let c : e + suc i ≡ suc e + i = omega arith in rw c at (g (suc i) (omega arith)))
    ∙ (ap (λ (y : ℕ). sets (set image (start + p) x) y (take (size - (p + 1)) xs)) b
    ∙ ap (λ (y : ℕ). sets image (start + p) (take y (x ∷ xs))) a))))
    (λ l.
    let a : 0 ≡ size - p = omega arith in
    out_of start size ws keeps (suc (length xs)) e p image l ∙ ap (λ (y : ℕ). sets image (start + p) (take y (x ∷ xs))) a)

module _ (s : Site) (ys image : List ℕ) (q : length ys ≡ s.line.bytes) (h : s.line.address < s.size) where
  plain-image : sets image (s.start + s.line.address) (take (s.size - s.line.address) ys)
      ≡ image_of s (padded s.line.width s.line.bytes ys) (padded s.line.width s.line.bytes (replicate s.line.bytes 1)) image
  unfolding image_of
  plain-image =
      let a = s.line.width in
      let n = s.line.bytes in
      let z : 0 + a ≡ a = omega arith in
      sym
      (skip s.start s.size (padded a n ys) (padded a n (replicate n 1)) a n 0 s.line.address image h
      (λ i l. let y : i ≡ 0 + i = omega arith in rw y at (pad-low a n (replicate n 1) i l))
      ∙ (ap (λ (y : ℕ). image_walk s.start s.size (padded a n ys) (padded a n (replicate n 1)) n y s.line.address image) z
      ∙ (ap (λ (y : ℕ). image_walk s.start s.size (padded a n ys) (padded a n (replicate n 1)) y a s.line.address image) (sym q)
      ∙ lay s.start s.size (padded a n ys) (padded a n (replicate n 1)) ys a s.line.address image
      (λ i l. pad-in a n (replicate n 1) i (simp length-replicate (omega arith)) ∙ get_or-replicate n i 1 0 (omega arith))
      (λ i l. pad-in a n ys i l))))

-- ------------------------------------------------------------------ `write_plain`

part : (a b : ℕ) (bs : List ℕ) → a ≤ length bs → take (pick (leb a b) a b) bs ≡ take b (take a bs)
part a b bs h = go (leb a b) refl
  where
    go : (c : Bool) → leb a b ≡ c → take (pick c a b) bs ≡ take b (take a bs)
    go true e = let l : a ≤ b = leb-true a b e in sym (take_all b (take a bs) (omega (arith, length-take-le a bs h)))
    go false e = let l : b < a = leb-false a b e in sym (take-take b a bs (omega arith))

some_of : (a b v : ℕ) → b ≤ a → take b (replicate a v) ≡ replicate b v
some_of a zero v h = refl
some_of zero (suc b) v h = absurd (omega arith)
some_of (suc a) (suc b) v h = ap (◌∷◌ v) (some_of a b v (omega arith))

same-part : (a b v : ℕ) → replicate (pick (leb a b) a b) v ≡ take b (replicate a v)
same-part a b v = go (leb a b) refl
  where
    go : (c : Bool) → leb a b ≡ c → replicate (pick c a b) v ≡ take b (replicate a v)
    go true e = let l : a ≤ b = leb-true a b e in sym (take_all b (replicate a v) (omega (arith, length-replicate a v)))
    go false e = let l : b < a = leb-false a b e in sym (some_of a b v (omega arith))

module _ (s : Site) (bs : List ℕ) (count : ℕ) (vs ms : List ℕ) where
  pub plain_out : s.size ≤ s.line.address → Plain s bs count vs ms count vs ms
  unfolding image_of plain_values plain_masks
  plain_out h = record {
    values = sym (out_of s.start s.size _ _ (s.line.width + s.line.bytes) 0 s.line.address vs h);
    masks = sym (out_of s.start s.size _ _ (s.line.width + s.line.bytes) 0 s.line.address ms h);
    moves = refl;
  }

  module _ (h : s.line.address < s.size) {q : ℕ} (eq : q ≡ s.line.address) where
    pub plain_fits : Ready s → Fits w64 (s.start + q)
    plain_fits r = record { fits = omega (arith, r.inside) }

    pub plain_in : s.line.bytes ≤ length bs → {room k to : ℕ} → room ≡ s.size - s.line.address → k ≡ pick (leb s.line.bytes room) s.line.bytes room → to ≡ s.start + q
        → {vs' ms' : List ℕ} → vs' ≡ sets vs to (take k bs) → {r : ℕ} → Filled to k count ms r ms' → Plain s bs count vs ms r vs' ms'
    unfolding plain_values plain_masks
    plain_in l {room} er ek et ev d = record {
      values = ev ∙ (rw (et, eq, ek, part s.line.bytes room bs l, er) (plain-image s (take s.line.bytes bs) vs (length-take-le s.line.bytes bs l) h));
      masks = d.stored ∙ (rw (et, eq, ek, same-part s.line.bytes room 255, er) (plain-image s (replicate s.line.bytes 255) ms (length-replicate s.line.bytes 255) h));
      moves = d.counted.moves;
    }

-- what `fill_masks` asks
pub plain-asks : {s : Site} → Ready s → s.line.address < s.size → {q to : ℕ} → q ≡ s.line.address → to ≡ s.start + q → {k count : ℕ} → k ≤ s.line.bytes → 2080 ≤ count → count ≤ 4294969375
    → (to ≤ 65536) × (k ≤ 256) × (2080 ≤ count) × (count ≤ 4294969375)
plain-asks r h eq et l a b = (omega (arith, r.inside), omega (arith, r.line.content), a, b)

pub ruleset plain = (rules, le-leb, lt-leb, plain_out, plain_fits, plain_in, plain-asks)

-- `write_plain`: t is the test of the bounds
module _ (s : Site) (bs vs ms : List ℕ) {t : Bool} (et : t ≡ is_ready s) where
  pub plain-unready : not t ≡ true → {r : ℕ} → r ≡ s.filled.known
      → Written (is_ready s && leb s.line.bytes (length bs)) (plain_values s bs vs) (plain_masks s ms) s.filled.known vs ms r vs ms
  plain-unready h k = let e : is_ready s ≡ false = sym et ∙ not-true t h in record { answer = known-still s.filled.known ms k; values = rw e; masks = rw e }

  module _ (k : not t ≡ false) where
    is_true : is_ready s ≡ true
    is_true = sym et ∙ not-false t k

    pub plain_ready : Ready s
    plain_ready = ready_by s is_true

    pub plain-unlent : length bs < s.line.bytes → {r : ℕ} → r ≡ s.filled.known
        → Written (is_ready s && leb s.line.bytes (length bs)) (plain_values s bs vs) (plain_masks s ms) s.filled.known vs ms r vs ms
    plain-unlent h d = let e : leb s.line.bytes (length bs) ≡ false = lt-leb s.line.bytes (length bs) h in record { answer = known-still s.filled.known ms d; values = rw (is_true, e); masks = rw (is_true, e) }

    pub plain-written : s.line.bytes ≤ length bs → {count : ℕ} → count ≡ s.filled.known + 2080 → {j : ℕ} {vs' ms' : List ℕ} → Plain s bs count vs ms j vs' ms' → {r : ℕ} → r ≡ j - 2080
        → Written (is_ready s && leb s.line.bytes (length bs)) (plain_values s bs vs) (plain_masks s ms) s.filled.known vs ms r vs' ms'
    plain-written h c {j} {vs'} {ms'} p f =
        let e : leb s.line.bytes (length bs) ≡ true = le-leb s.line.bytes (length bs) h in
        record { answer = known-then s.filled.known ms ms' j c p.moves f; values = rw (is_true, e) p.values; masks = rw (is_true, e) p.masks }

pub ruleset plainly = (rules, plain-unready, plain_ready, plain-unlent, plain-written)
