use Rattle.one_position.proofs.ExplainLaws.{widths}
use Rattle.one_position.proofs.whole.bytes_of.Goals as goal

pub enum_told-1 : goal.enum_told-1
enum_told-1 c = search widths

pub enum_told-in-Three : goal.enum_told-in-Three
enum_told-in-Three c = search widths

pub enum_told-in-Four : goal.enum_told-in-Four
enum_told-in-Four c = search widths

pub returns-in-Two : goal.returns-in-Two
returns-in-Two c = search widths

pub returns-in-Three : goal.returns-in-Three
returns-in-Three c = search widths

pub returns-in-Four : goal.returns-in-Four
returns-in-Four c = search widths
