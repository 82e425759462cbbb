use mathlib.Core.Path.{refl}
use native.Mathlib.Omega.{arith}
use Rattle.images.proofs.PlainLaws.{plain, plain_in}
use Rattle.images.proofs.plain.lay_plain.Goals as goal

pub returns-then-site : goal.returns-then-site
returns-then-site c = search plain

pub returns : goal.returns
returns c = plain_in c.args.site _ _ _ _ c.if-site.false c.wide.ensures (omega arith) c.wide-room.ensures c.fewer-k.ensures.0 refl c.copy_bytes.ensures c.fill_masks.ensures
