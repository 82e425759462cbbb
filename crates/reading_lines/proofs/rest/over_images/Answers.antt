use borrow.Author.Rules.{rules}
use Rattle.reading_lines.proofs.Laid.{zeros-9216, fresh-rows, start-ready, start-long, rest-refused, rest-done}
use Rattle.reading_lines.proofs.Laid.{rests}
use Rattle.reading_lines.proofs.rest.over_images.Goals as goal

pub starting-start-requires : goal.starting-start-requires
starting-start-requires c = search rests

pub second_over-two-requires : goal.second_over-two-requires
second_over-two-requires c = (start-ready c.args.found c.requires.0 c.starting-start.ensures, c.requires.0.short, fresh-rows, start-long c.args.found c.requires.0 c.starting-start.ensures c.requires.2, start-long c.args.found c.requires.0 c.starting-start.ensures c.requires.3)

pub enum_known-two : goal.enum_known-two
enum_known-two c = search rests

pub enum_told-1 : goal.enum_told-1
enum_told-1 c = search rests

pub refuse_two-requires : goal.refuse_two-requires
refuse_two-requires c = search rests

pub shape_of-vs-in_default : goal.shape_of-vs-in_default
shape_of-vs-in_default c = search rests

pub shape_of-ms-in_default : goal.shape_of-ms-in_default
shape_of-ms-in_default c = search rests

pub returns-in_default : goal.returns-in_default
returns-in_default c = rest-refused c.args.found c.requires.0 c.starting-start.ensures c.requires.2 c.requires.3 c.second_over-two.ensures.second_is c.in_default.is c.refuse_two.ensures _

pub counts_of-counts-requires : goal.counts_of-counts-requires
counts_of-counts-requires c = search rests

pub lay_tables-requires : goal.lay_tables-requires
lay_tables-requires c = search rules

pub lay_images-requires : goal.lay_images-requires
lay_images-requires c = search rules

pub accept-requires : goal.accept-requires
accept-requires c = search rests

pub shape_of-vs : goal.shape_of-vs
shape_of-vs c =
    let k = c.second_over-two.auto.values in
    search (rules, k)

pub shape_of-ms : goal.shape_of-ms
shape_of-ms c =
    let k = c.second_over-two.auto.masks in
    search (rules, k)

pub shape_of-areas : goal.shape_of-areas
shape_of-areas c = search rests

pub shape_of-symbols : goal.shape_of-symbols
shape_of-symbols c = search rests

pub shape_of-values : goal.shape_of-values
shape_of-values c = search rests

pub shape_of-masks : goal.shape_of-masks
shape_of-masks c = search rests

pub shape_of-fixups : goal.shape_of-fixups
shape_of-fixups c = search rests

pub returns : goal.returns
returns c = rest-done c.args.found c.requires.0 c.starting-start.ensures c.requires.2 c.requires.3 c.second_over-two.ensures.second_is c.in-All.is c.counts_of-counts.ensures c.requires.1 c.second_over-two.ensures.rows_len_unchanged zeros-9216 c.lay_tables.ensures c.lay_images.ensures c.accept.ensures
