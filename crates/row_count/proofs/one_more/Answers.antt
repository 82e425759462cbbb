use Rattle.row_count.proofs.CountLaws.{counting}
use Rattle.row_count.proofs.one_more.Goals as goal

pub returns-then-n-i : goal.returns-then-n-i
returns-then-n-i c = search counting

pub returns-then-k-ge1024 : goal.returns-then-k-ge1024
returns-then-k-ge1024 c = search counting

pub returns : goal.returns
returns c = search counting
