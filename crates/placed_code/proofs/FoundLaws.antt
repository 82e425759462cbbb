-- What the proofs of the tables share: a law for each return.
-- Assumes nothing.
use Prim.Native.Nat.{ℕ, zero, suc, ◌+◌, ◌≤◌, ◌<◌}
use mathlib.Core.Path.{◌≡◌, refl, ap, sym, ◌∙◌}
use mathlib.Core.Bool.{Bool, true, false}
use mathlib.Core.List.{List, []}
use mathlib.Core.Option.{some}
use native.Mathlib.Omega.{arith}
use mir.Val.{Fits}
use mir.Syntax.{w64}
use lib.Dec.{leb}
use lib.ListN.{length, drop, length-drop}
use borrow.Author.Rules.{rules}
use borrow.Author.Tests.{leb-true}
use Rattle.format.specs.Header.{Form, Head, header}
use Rattle.format.specs.Lines.{end_length, lines, lines_of}
use Rattle.format.specs.Outcome.{Outcome, fine, refused}
use Rattle.format.specs.Records.{Parsed, Records, records}
use Rattle.format.specs.Reading.{Read, allowed, lent_room, read}
use Rattle.format.specs.Tables.{Tables, room, tables, total}
use Rattle.laws.specs.Places.{records_at}
use Rattle.laws.specs.Rows.{tables_in}
use Rattle.laws.proofs.Opened.{Opened, opened, opens}
use Rattle.laws.proofs.Outcomes.{passed}
use Rattle.laws.proofs.WasRead.{WasRead, what-was-read}
use Rattle.steps.proofs.Entries.{end-within}
use Rattle.header.specs.Told.{form_of, more_of, told_head}
use Rattle.header.specs.declared.Form as text
use Rattle.header.specs.declared.Head as code
use Rattle.header.specs.declared.Head.TheVariants.{Found, Missing}
use Rattle.header.specs.declared.Width.{Width}
use Rattle.header.specs.declared.Width.TheVariants.{Two, Three, Four}
use Rattle.tables.specs.declared.group.Found as one
use Rattle.tables.specs.declared.group.Listed.{Listed}
use Rattle.tables.specs.declared.group.Listed.TheVariants.{Done, Refused, TooLong}
use Rattle.tables.specs.GroupOne.{Grouped}
use Rattle.tables.specs.GroupOne as group
use Rattle.tables.proofs.TableRows.{tables-held}
use Rattle.record_rows.specs.ReadPairs.{roomy}
use Rattle.admission.specs.Admits.{IsRead}
use Rattle.placed_code.specs.declared.found.Tabled.{Tabled}
use Rattle.placed_code.specs.Code.{HeldBy, TablesAt, TablesHeld}

-- a text that is read is no longer than its bound, and its areas take no more than theirs
module _ (s : List ℕ) (w : Read) (e : read true roomy s ≡ fine w) where
  pub was : WasRead true roomy s w
  was = what-was-read true roomy s w e

  pub short : length s ≤ 65536
  unfolding allowed
  short =
      let a = passed (lent_room roomy) _ 1 0 was.passes was.allows in
      let b = passed (leb (length s) 65536) _ 2 0 was.passes a.1 in
      leb-true (length s) 65536 b.0

  pub roomy-areas : total w.built.tables.areas ≤ 65536
  unfolding room
  roomy-areas = leb-true (total w.built.tables.areas) 65536 (passed (leb (total w.built.tables.areas) 65536) _ 9 0 w.built.size was.builds.roomy).0

-- `bytes_of`
pub two_bytes : {x : Width} → x ≡ Two → 2 ≡ suc (more_of x)
two_bytes e = rw e

pub three-bytes : {x : Width} → x ≡ Three → 3 ≡ suc (more_of x)
three-bytes e = rw e

pub four_bytes : {x : Width} → x ≡ Four → 4 ≡ suc (more_of x)
four_bytes e = rw e

pub ruleset widths = (rules, two_bytes, three-bytes, four_bytes)

-- `tables_at`
module _ (s : List ℕ) (at : ℕ) (f : text.Form) (xs₀ ys₀ xs ys : List ℕ) {q : Listed} (g : Grouped true (form_of f) s at at xs₀ ys₀ xs ys q) where
  pub tables-refused : {n p : ℕ} → q ≡ Refused n p → (t : Tabled) → TablesAt s at (form_of f) t xs ys
  unfolding Grouped
  tables-refused {n} {p} e t = record {
    holds = λ w r k h. let g' : group.Refuses true (form_of f) s at xs₀ ys₀ xs ys n p = rw e at g in unlikely (sym g'.says ∙ h);
  }
    where
      unlikely : {C : Type 0} {t : Tables} → refused n p ≡ fine t → C
      unlikely h = let z : ◌≡◌ {A = ℕ} 0 1 = cc in let y : ⊥ = omega arith in absurd y

  pub tables-long : q ≡ TooLong → (t : Tabled) → TablesAt s at (form_of f) t xs ys
  unfolding Grouped
  tables-long e t = record {
    holds = λ w r k h. let g' = rw e at g in let y : ⊥ = omega (arith, short s w r, g'.0) in absurd y;
  }

  module _ (lx : length xs₀ ≡ 448) (ly : length ys₀ ≡ 5120) {d : one.Found} (e : q ≡ Done d) where
    got : group.Read true (form_of f) s at at xs₀ ys₀ xs ys d
    unfolding Grouped
    got = rw e at g

    pub tables-told : {b : ℕ} → b ≡ suc (more_of f.width) → TablesAt s at (form_of f) (record { areas = d.areas; symbols = d.symbols; big = f.big; width = b }) xs ys
    tables-told {b} eb = record {
      holds = λ w x k h.
          let same : got.sofar ≡ w.built.tables = (let q : fine got.sofar ≡ fine w.built.tables = sym got.entries ∙ h in cc) in
          record {
            tables-are = tables-held got.held (omega (arith, lx, got.areas-low)) (omega (arith, ly, got.symbols-low)) ∙ same;
            few = got.areas-low;
            order = ap (λ (u : Form). u.big) k;
            address = eb ∙ ap (λ (u : Form). u.address_length) k;
          };
    }

pub ruleset by-group = (rules, tables-refused, tables-long, tables-told)

-- `tables_of`
module _ (s : List ℕ) (v : IsRead s) where
  abbrev its : Read
  its = v.as_read

  opening : Opened s v.as_read.parsed
  opening = opens s v.as_read.parsed (was s v.as_read v.is).parses

  module _ {h : code.Head} (e : told_head h ≡ header s) where
    pub of-headless : h ≡ Missing → (t : Tabled) (xs ys : List ℕ) → TablesHeld s t xs ys
    of-headless g t xs ys = absurd (let m : told_head Missing ≡ some opening.h = ap told_head (sym g) ∙ (e ∙ opening.is-head) in let z : ◌≡◌ {A = ℕ} 0 1 = cc in omega arith)

    module _ {f : text.Form} {n : ℕ} (g : h ≡ Found f n) where
      head-is : record { form = form_of f; next = n } ≡ opening.h
      head-is = let m : some (record { form = form_of f; next = n }) ≡ some opening.h = ap told_head (sym g) ∙ (e ∙ opening.is-head) in cc

      module _ {k : ℕ} (i : k ≡ end_length (drop n s)) where
        end_is : k ≡ suc opening.e
        end_is = i ∙ (ap (λ (x : Head). end_length (drop x.next s)) head-is ∙ opening.is-end)

        pub of-behind : Fits w64 (n + k)
        of-behind = record { fits = omega (arith, end_is, i, end-within (drop n s), length-drop n s, short s v.as_read v.is) }

        records-are : records_at true (form_of f) s (n + k) ≡ its.parsed.records
        unfolding records_at lines_of opened
        records-are =
            ap (λ (m : ℕ). records true (form_of f) (n + m) (lines (drop (n + m) s))) end_is
            ∙ (ap (λ (x : Head). records true x.form (x.next + suc opening.e) (lines (drop (x.next + suc opening.e) s))) head-is
            ∙ ap (λ (x : Parsed). x.records) opening.same)

        form-is : form_of f ≡ its.parsed.form
        unfolding opened
        form-is = ap (λ (x : Head). x.form) head-is ∙ ap (λ (x : Parsed). x.form) opening.same

        pub of-found : {t : Tabled} {xs ys : List ℕ} → TablesAt s (n + k) (form_of f) t xs ys → TablesHeld s t xs ys
        of-found a = record {
          holds = λ w r.
              let same : v.as_read ≡ w = (let q : fine v.as_read ≡ fine w = sym v.is ∙ r in cc) in
              let entered : tables (records_at true (form_of f) s (n + k)).entries ≡ fine w.built.tables =
              ap (λ (x : Records). tables x.entries) records-are ∙ ((was s v.as_read v.is).builds.entered ∙ ap (λ (x : Read). fine x.built.tables) same) in
              a.holds w r (form-is ∙ ap (λ (x : Read). x.parsed.form) same) entered;
        }

pub ruleset by-header = (rules, of-headless, of-behind, of-found)
