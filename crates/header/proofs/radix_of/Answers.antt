use Rattle.scan.proofs.Laws.Tests.{tests}
use Rattle.format.specs.Header.{radix_of}
use Rattle.header.proofs.radix_of.Goals as goal

pub returns-in-88 : goal.returns-in-88
unfolding radix_of
returns-in-88 c = search tests

pub returns-in-68 : goal.returns-in-68
unfolding radix_of
returns-in-68 c = search tests

pub returns-in-81 : goal.returns-in-81
unfolding radix_of
returns-in-81 c = search tests

pub returns-in_default : goal.returns-in_default
unfolding radix_of
returns-in_default c = search tests
