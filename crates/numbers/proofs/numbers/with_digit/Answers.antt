use Rattle.scan.proofs.Laws.Tests.{tests}
use native.Mathlib.Omega.{arith}
use Rattle.numbers.proofs.Laws.Numbers.{grown-fits}
use Rattle.numbers.proofs.numbers.with_digit.Goals as goal

pub overflow_mul-w : goal.overflow_mul-w
overflow_mul-w c = omega (arith, grown-fits c.args.v c.args.radix c.args.d (omega arith) (omega arith) (omega arith))

pub overflow_add-w : goal.overflow_add-w
overflow_add-w c = omega (arith, grown-fits c.args.v c.args.radix c.args.d (omega arith) (omega arith) (omega arith))

pub returns-then-w-lt4294967296 : goal.returns-then-w-lt4294967296
returns-then-w-lt4294967296 c = search tests

pub returns : goal.returns
returns c = search tests
