use Rattle.header.proofs.Laws.{heading}
use Rattle.header.proofs.format_spec.Goals as goal

pub past_kind-p-requires : goal.past_kind-p-requires
past_kind-p-requires c = search heading

pub letters_at-requires : goal.letters_at-requires
letters_at-requires c = search heading

pub returns : goal.returns
returns c = search heading
