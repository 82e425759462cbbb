use Rattle.coverage.proofs.CoverLaws.{by-records}
use Rattle.coverage.proofs.whole.by_records.Goals as goal

pub read_pairs-requires : goal.read_pairs-requires
read_pairs-requires c = search by-records

pub by_rows-requires : goal.by_rows-requires
by_rows-requires c = (search by-records, search by-records, search by-records)

pub shape_of-pairs-in-Err : goal.shape_of-pairs-in-Err
shape_of-pairs-in-Err c = search by-records

pub shape_of-content-in-Err : goal.shape_of-content-in-Err
shape_of-content-in-Err c = search by-records

pub shape_of-fragments-in-Err : goal.shape_of-fragments-in-Err
shape_of-fragments-in-Err c = search by-records

pub returns-in-Err : goal.returns-in-Err
returns-in-Err c = search by-records

pub shape_of-pairs-in-Ok : goal.shape_of-pairs-in-Ok
shape_of-pairs-in-Ok c = search by-records

pub shape_of-content-in-Ok : goal.shape_of-content-in-Ok
shape_of-content-in-Ok c = search by-records

pub shape_of-fragments-in-Ok : goal.shape_of-fragments-in-Ok
shape_of-fragments-in-Ok c = search by-records

pub shape_of-map : goal.shape_of-map
shape_of-map c = search by-records

pub returns-in-Ok : goal.returns-in-Ok
returns-in-Ok c = search by-records
