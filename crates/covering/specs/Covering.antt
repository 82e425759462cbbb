-- Which entries of a line a fragment covers, which are kept, and which one a position is written from.
-- Assumes nothing.
use Rattle.std.specs.Prelude.{ℕ, zero, suc, ◌+◌, ◌-◌, Bool, ◌&&◌, List, eqb, leb, ltb, get_or}
use Rattle.format.specs.Lists.{pick}
use Rattle.format.specs.Mode.{on_site, touched}

-- a fragment of a mode and an entry covers e
unfoldable pub covered : (a mode entry e : ℕ) → Bool
covered a mode entry e = leb a entry && (leb entry e && ltb e (entry + touched mode))

-- it keeps the first of them that it covers; of others it says nothing
unfoldable pub kept_with : (a mode entry e : ℕ) → Bool → Bool
kept_with a mode entry e before = pick (covered a mode entry e) (ltb e (entry + on_site mode)) before

-- before any fragment the content is kept
unfoldable pub in_content : (a entries e : ℕ) → Bool
in_content a entries e = leb a e && ltb e entries

-- n fragments from the i-th on, in order
unfoldable pub kept_from : (a : ℕ) (ms es : List ℕ) (e i n : ℕ) → Bool → Bool
kept_from a ms es e i zero k = k
kept_from a ms es e i (suc n) k = kept_from a ms es e (suc i) n (kept_with a (get_or ms i 0) (get_or es i 0) e k)

-- the entry behind so many kept ones, among m entries from one on; or the last one's next
unfoldable pub entry_of : (a : ℕ) (ms es : List ℕ) (n entries e m behind : ℕ) → ℕ
entry_of a ms es n entries e zero behind = e
entry_of a ms es n entries e (suc m) behind =
    let rest = entry_of a ms es n entries (suc e) m in
    pick (kept_from a ms es e 0 n (in_content a entries e)) (pick (eqb behind 0) e (rest (behind - 1))) (rest behind)
