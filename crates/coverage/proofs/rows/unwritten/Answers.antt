use Rattle.std.proofs.Common.{◌≡◌, ◌∙◌, count_by, eqb, take, rules}
use Rattle.coverage.proofs.RowLaws.{counts_zeros}
use Rattle.coverage.proofs.rows.unwritten.Goals as goal

pub returns : goal.returns
returns c = let e : c.count.result ≡ count_by (λ x. eqb x 0) (take c.args.n c.args.map.now) = search rules in e ∙ counts_zeros _
