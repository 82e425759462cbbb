use borrow.Author.Rules.{rules}
use Rattle.book_read.proofs.Laws.{fetching, fetch-refused, fetch-opened}
use Rattle.book_read.proofs.fetch_pattern.Goals as goal

pub returns-in_err-open_book : goal.returns-in_err-open_book
returns-in_err-open_book c =
    let e = fetch-refused c.args.book.now c.args.name.now c.args.values.now c.args.masks.now c.open_book.ensures c.in_err-open_book.was in
    search (rules, e)

pub returns : goal.returns
returns c = fetch-opened c.args.book.now c.args.name.now c.args.values.now c.args.masks.now c.open_book.ensures c.in_ok-open_book.was c.copy_pattern.ensures
