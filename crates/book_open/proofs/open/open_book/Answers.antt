use borrow.Author.Rules.{rules}
use Rattle.book_open.proofs.Laws.{opening, open-first, open-second, open-left, open-all}
use Rattle.book_open.proofs.open.open_book.Goals as goal

pub returns-then-book-place_of : goal.returns-then-book-place_of
returns-then-book-place_of c = search opening

pub returns-in_err-first_pass : goal.returns-in_err-first_pass
returns-in_err-first_pass c =
    let e = open-first _ _ _ c.number_at-n.ensures c.place_of.ensures c.if-book-place_of.false c.first_pass.ensures _ c.in_err-first_pass.was in
    search (rules, e)

pub returns-in_err-place : goal.returns-in_err-place
returns-in_err-place c =
    let e = open-second _ _ _ c.number_at-n.ensures c.place_of.ensures c.if-book-place_of.false c.first_pass.ensures c.in_ok-first_pass.was c.second_pass.ensures _ c.in_err-place.was in
    search (rules, e)

pub returns-then-place-book : goal.returns-then-place-book
returns-then-place-book c = open-all _ _ _ c.number_at-n.ensures c.place_of.ensures c.if-book-place_of.false c.first_pass.ensures c.in_ok-first_pass.was c.second_pass.ensures _ c.in_ok-place.was c.if-place-book.true

pub returns : goal.returns
returns c = open-left _ _ _ c.number_at-n.ensures c.place_of.ensures c.if-book-place_of.false c.first_pass.ensures c.in_ok-first_pass.was c.second_pass.ensures _ c.in_ok-place.was c.if-place-book.false
