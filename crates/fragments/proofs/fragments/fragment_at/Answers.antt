use Rattle.fragments.proofs.Laws.Fragments.{fragmenting, fragment-2, fragment-3, fragment-4, fragment-5}
use Rattle.fragments.proofs.fragments.fragment_at.Goals as goal

pub returns-then-a-at : goal.returns-then-a-at
returns-then-a-at c = search fragmenting

pub returns-in_err-mode : goal.returns-in_err-mode
returns-in_err-mode c =
    let e = fragment-2 _ c.args.big _ _ c.past_kind-a.ensures c.if-a-at.false c.parse_extended_mode.ensures c.in_err-mode.was in
    search fragmenting

pub returns-in_err-entry : goal.returns-in_err-entry
returns-in_err-entry c =
    let e = fragment-3 _ c.args.big _ _ c.past_kind-a.ensures c.if-a-at.false c.parse_extended_mode.ensures c.in_ok-mode.was c.next_byte.ensures c.in_err-entry.was in
    search fragmenting

pub returns-in_err-index : goal.returns-in_err-index
returns-in_err-index c =
    let e = fragment-4 _ c.args.big _ _ c.past_kind-a.ensures c.if-a-at.false c.parse_extended_mode.ensures c.in_ok-mode.was c.next_byte.ensures c.in_ok-entry.was c.next_index.ensures c.in_err-index.was in
    search fragmenting

pub returns : goal.returns
returns c = fragment-5 _ _ _ _ c.past_kind-a.ensures c.if-a-at.false c.parse_extended_mode.ensures c.in_ok-mode.was c.next_byte.ensures c.in_ok-entry.was c.next_index.ensures c.in_ok-index.was
