-- A fragment within the conditions has the same bytes by the rows of the tables and by the tables.
-- Assumes nothing.
use Prim.Native.Nat.{ℕ, zero, suc, ◌+◌, ◌-◌, ◌*◌, ◌≤◌, ◌<◌, ◌%◌, ◌/◌}
use mathlib.Core.Path.{◌≡◌, refl, ap, sym, subst, ◌∙◌}
use mathlib.Core.Bool.{Bool, true, false, not, ◌&&◌, false≢true}
use mathlib.Core.List.{List, [], ◌∷◌}
use mathlib.Core.Option.{Option, none, some}
use native.Mathlib.Omega.{arith}
use lib.Dec.{eqb, leb}
use lib.ListN.{length, get_or, take, drop, replicate, get_elem?}
use lib.Seq.{sets}
use borrow.Author.Tests.{eq-eqb, not-true}
use Rattle.format.specs.Header.{Form}
use Rattle.format.specs.Lists.{pick}
use Rattle.format.specs.Number.{join}
use Rattle.format.specs.Pairs.{Fragment}
use Rattle.format.specs.Mode.{Class, Addr19, Addr11, Addr24, Addr16, Byte, Other, bit, class_of, on_site, size_of, gives, gives_of}
use Rattle.format.specs.Outcome.{Outcome, fine, refused}
use Rattle.format.specs.Tables.{Area, Symbol, Tables, rank}
use Rattle.format.specs.Fixups.{Reference, home_of, reference, symbol_ref, to_area}
use Rattle.format.specs.Target.{wrap_add}
use Rattle.sites.specs.declared.Filled.{Filled}
use Rattle.sites.specs.Site.{tables_for}
use Rattle.references.specs.References.{refers_at, refers_in}
use Rattle.referred_address.specs.Address.{address_by, address_in}
use Rattle.laid.specs.Fit.{whole, clear, beside_all, fit_fragment, fit_fragments}
use Rattle.laid.specs.Laid.{Chosen, referred, in_bytes, low_first, low_last, site_of, number_in, field, field_to, laid_on}
use Rattle.laid.specs.Outside.{by_index}
use Rattle.laid.proofs.Step.{both_true}
use Rattle.laid_field.specs.Field.{size_by, field_by}
use Rattle.laid_rows.specs.Over.{Around, around, address_for, laid_over}

-- ------------------------------------------------------------------ sizes

size_is : (m : ℕ) → whole (class_of m) ≡ true → size_by m ≡ on_site m
unfolding size_by on_site
size_is m w = go (class_of m) w
  where
    go : (c : Class) → whole c ≡ true → pick (eqb (size_of c) 3) 3 2 ≡ size_of c
    go Addr19 h = absurd (false≢true h)
    go Addr11 h = absurd (false≢true h)
    go Addr24 h = refl
    go Addr16 h = refl
    go Byte h = absurd (false≢true h)
    go Other h = absurd (false≢true h)

zero-bytes : (big : Bool) (m : ℕ) → in_bytes big (size_by m) 0 ≡ replicate (size_by m) 0
unfolding size_by in_bytes low_first low_last
zero-bytes big m = go big (eqb (on_site m) 3)
  where
    go : (b t : Bool) → in_bytes b (pick t 3 2) 0 ≡ replicate (pick t 3 2) 0
    go true true = refl
    go true false = refl
    go false true = refl
    go false false = refl

gives-is : (m : ℕ) → whole (class_of m) ≡ true → bit 10 m ≡ false → gives m ≡ true
unfolding gives
gives-is m w b = go (class_of m) w
  where
    go : (c : Class) → whole c ≡ true → gives_of c m ≡ true
    go Addr19 h = absurd (false≢true h)
    go Addr11 h = absurd (false≢true h)
    go Addr24 h = rw b
    go Addr16 h = rw b
    go Byte h = absurd (false≢true h)
    go Other h = absurd (false≢true h)

clear-10 : (m : ℕ) → clear m ≡ true → bit 10 m ≡ false
unfolding clear
clear-10 m h =
    let a = both_true (not (bit 2 m)) _ h in
    let b = both_true (not (bit 5 m)) _ a.1 in
    let c = both_true (not (bit 6 m)) _ b.1 in
    let d = both_true (not (bit 9 m)) (not (bit 10 m)) c.1 in
    not-true (bit 10 m) d.1

-- ------------------------------------------------------------------ one fragment

-- the address of an outside symbol is found by its index
pub record Told (t : Tables) (chosen outside : List ℕ) : Type 0 where
  pub tells : (i : ℕ) (s : Symbol) → get_elem? t.symbols i ≡ some s → (by_index t chosen outside).outside s.name.at ≡ get_or outside i 0

module _ (fm : Form) (t : Tables) (areas symbols : List ℕ) (filled : Filled) (are : tables_for areas symbols filled ≡ t) (chosen outside : List ℕ) (T : Told t chosen outside)
    (width : ℕ) (ew : width ≡ fm.address_length) (place : ℕ) (bs : List ℕ) where
  abbrev ch : Chosen
  ch = by_index t chosen outside

  abbrev w : Around
  w = around areas symbols filled chosen outside

  module _ (f : Fragment) (h : fit_fragment fm f ≡ true) where
    is_whole : whole (class_of f.mode) ≡ true
    unfolding fit_fragment
    is_whole = (both_true (whole (class_of f.mode)) (clear f.mode && leb fm.address_length f.entry) h).0

    is-clear : clear f.mode ≡ true
    unfolding fit_fragment
    is-clear = (both_true (clear f.mode) (leb fm.address_length f.entry) (both_true (whole (class_of f.mode)) (clear f.mode && leb fm.address_length f.entry) h).1).0

    address_is : address_for w f ≡ address_in chosen outside f.index (reference t 0 f)
    unfolding address_for refers_in refers_at
    address_is = rw (eq-eqb f.entry f.entry refl, gives-is f.mode is_whole (clear-10 f.mode is-clear), are)

    -- where nothing is referred to
    nothing : field_by fm.big (f.entry - width) bs f.mode none ≡ replicate (on_site f.mode) 0
    nothing = zero-bytes fm.big f.mode ∙ ap (λ (n : ℕ). replicate n 0) (size_is f.mode is_whole)

    -- and where something is
    something : (r : Reference) → address_by chosen outside f.index r ≡ referred ch r
        → field_by fm.big (f.entry - width) bs f.mode (some (address_by chosen outside f.index r)) ≡ field_to fm ch bs f (fine (some r))
    unfolding number_in site_of
    something r e = rw (e, size_is f.mode is_whole, ew)

    to-area : (o : Option ℕ) (v : ℕ) → field_by fm.big (f.entry - width) bs f.mode (address_in chosen outside f.index (fine (to_area o v))) ≡ field_to fm ch bs f (fine (to_area o v))
    unfolding address_by referred by_index
    to-area none v = nothing
    to-area (some id) v = something (record { outside = 0; what = id; length = 0; value = v }) refl

    by_name : (s : Symbol) → get_elem? t.symbols f.index ≡ some s
        → address_by chosen outside f.index (record { outside = 1; what = s.name.at; length = s.name.length; value = s.value }) ≡ referred ch (record { outside = 1; what = s.name.at; length = s.name.length; value = s.value })
    unfolding address_by referred
    by_name s e = ap (λ (a : ℕ). wrap_add a s.value) (sym (T.tells f.index s e))

    to-symbol : (o : Option Symbol) → get_elem? t.symbols f.index ≡ o
        → field_by fm.big (f.entry - width) bs f.mode (address_in chosen outside f.index (symbol_ref t.areas 0 o)) ≡ field_to fm ch bs f (symbol_ref t.areas place o)
    to-symbol none e = nothing
    to-symbol (some s) e = go s.ref
      where
        go : (b : Bool) → field_by fm.big (f.entry - width) bs f.mode
            (address_in chosen outside f.index (fine (pick b (some (record { outside = 1; what = s.name.at; length = s.name.length; value = s.value })) (to_area (home_of t.areas s.area) s.value))))
            ≡ field_to fm ch bs f (fine (pick b (some (record { outside = 1; what = s.name.at; length = s.name.length; value = s.value })) (to_area (home_of t.areas s.area) s.value)))
        go true = something (record { outside = 1; what = s.name.at; length = s.name.length; value = s.value }) (by_name s e)
        go false = to-area (home_of t.areas s.area) s.value

    pub field_is : field_by fm.big (f.entry - width) bs f.mode (address_for w f) ≡ field fm t ch place bs f
    unfolding field reference
    field_is = ap (field_by fm.big (f.entry - width) bs f.mode) address_is ∙ go (bit 1 f.mode)
      where
        go : (b : Bool) → field_by fm.big (f.entry - width) bs f.mode
            (address_in chosen outside f.index (pick b (symbol_ref t.areas 0 (get_elem? t.symbols f.index)) (fine (to_area (rank 0 t.areas f.index) 0))))
            ≡ field_to fm ch bs f (pick b (symbol_ref t.areas place (get_elem? t.symbols f.index)) (fine (to_area (rank 0 t.areas f.index) 0)))
        go true = to-symbol (get_elem? t.symbols f.index) refl
        go false = to-area (rank 0 t.areas f.index) 0

  -- ------------------------------------------------------------------ all of a pair

  pub fragments-are : (fs : List Fragment) → fit_fragments fm fs ≡ true → (xs : List ℕ) → laid_over fm.big width w bs fs xs ≡ laid_on fm t ch place bs fs xs
  unfolding laid_over laid_on fit_fragments site_of
  fragments-are [] h xs = refl
  fragments-are (f ∷ fs) h xs =
      let a = both_true (fit_fragment fm f) (beside_all f fs && fit_fragments fm fs) h in
      let b = both_true (beside_all f fs) (fit_fragments fm fs) a.1 in
      ap (λ (vs : List ℕ). laid_over fm.big width w bs fs (sets xs (f.entry - width) vs)) (field_is f a.0)
      ∙ (ap (λ (n : ℕ). laid_over fm.big width w bs fs (sets xs (f.entry - n) (field fm t ch place bs f))) ew
      ∙ fragments-are fs b.1 (sets xs (f.entry - fm.address_length) (field fm t ch place bs f)))
