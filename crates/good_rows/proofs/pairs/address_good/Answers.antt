use Rattle.good_rows.proofs.Laws.{addresses}
use Rattle.good_rows.proofs.pairs.address_good.Goals as goal

pub enum_told-1 : goal.enum_told-1
enum_told-1 c = search addresses

pub enum_told-in-Three : goal.enum_told-in-Three
enum_told-in-Three c = search addresses

pub enum_told-in-Four : goal.enum_told-in-Four
enum_told-in-Four c = search addresses

pub returns-in-Two : goal.returns-in-Two
returns-in-Two c = search addresses

pub returns-in-Three : goal.returns-in-Three
returns-in-Three c = search addresses

pub returns-in-Four : goal.returns-in-Four
returns-in-Four c = search addresses
