-- The laws of what is laid over the lent buffers.
-- Assumes nothing.
use Prim.Native.Nat.{ℕ, ◌*◌, ◌≤◌}
use mathlib.Core.Path.{◌≡◌}
use mathlib.Core.List.{List}
use lib.ListN.{length, take}
use lib.Seq.{sets}
use borrow.Author.Rules.{rules}
use borrow.Author.Tests.{le-leb}
use Rattle.format.specs.Lists.{over}
use Rattle.laws.specs.Rows.{fixups_in}
use Rattle.grouped.specs.Group.{areas_for, room_for, Regrouped}
use Rattle.std.specs.Prelude.{Option}
use Rattle.layout.specs.Out.{most, FixupsOut, TablesOut, ImagesOut}

-- rows out
pub fixups-out : {k : ℕ} (kept : ℕ) {n : ℕ} {rows out out' : List ℕ} {r : Option ℕ} → n ≡ most 64 kept → Regrouped k n rows out r out' → FixupsOut k kept rows out out'
fixups-out kept e w = record { stored = rw (← e) w.stored }

pub tables-out : (na ns : ℕ) {a s : ℕ} {xs ys areas symbols areas' symbols' : List ℕ} → a ≡ most 64 na → s ≡ most 1024 ns → areas' ≡ sets areas 0 (take (7 * a) xs) → symbols' ≡ sets symbols 0 (take (5 * s) ys)
    → TablesOut na ns xs ys areas symbols areas' symbols'
tables-out na ns e f a b = record { of-areas = rw (← e) a; of-symbols = rw (← f) b }

pub images-out : {positions k kept : ℕ} {vs ms rows values masks fixups values' masks' fixups' : List ℕ} → values' ≡ sets values 0 (take positions vs) → masks' ≡ sets masks 0 (take positions ms)
    → FixupsOut k kept rows fixups fixups' → ImagesOut positions k kept vs ms rows values masks fixups values' masks' fixups'
images-out a b c = record { of_values = a; of-masks = b; of-fixups = c }

pub ruleset outs = (rules, fixups-out, tables-out, images-out)

-- for a caller that lends rows and room
pub fixups-laid : {k kept : ℕ} {rows fixups fixups' : List ℕ} → FixupsOut k kept rows fixups fixups' → 9 * k ≤ length rows → 9 * k ≤ length fixups → kept ≤ 64
    → fixups' ≡ over (areas_for kept 0 (fixups_in rows k)) fixups
unfolding room_for most
fixups-laid {k} {kept} {rows} {fixups} w h i j = rw (le-leb (9 * k) (length rows) h, le-leb (9 * k) (length fixups) i, le-leb kept 64 j) at w.stored

pub areas-laid : {na ns : ℕ} {xs ys areas symbols areas' symbols' : List ℕ} → TablesOut na ns xs ys areas symbols areas' symbols' → na ≤ 64 → areas' ≡ sets areas 0 (take (7 * na) xs)
unfolding most
areas-laid {na} w h = rw (le-leb na 64 h) at w.of-areas

pub symbols-laid : {na ns : ℕ} {xs ys areas symbols areas' symbols' : List ℕ} → TablesOut na ns xs ys areas symbols areas' symbols' → ns ≤ 1024 → symbols' ≡ sets symbols 0 (take (5 * ns) ys)
unfolding most
symbols-laid {na} {ns} w h = rw (le-leb ns 1024 h) at w.of-symbols
