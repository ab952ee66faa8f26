-- `rei2::names::rei2_refusal_name` meets its contract.
use mathlib.Core.Path.{ap, ◌∙◌}
use Rattle.rei2.specs.Names.{name_of}
use native.Mathlib.Omega.{arith}
use Rattle.rei2.proofs.NameLaws.{names_tell, named}
use Rattle.rei2.proofs.names.rei2_refusal_name.Goals as goal

pub returns-in-0 : goal.returns-in-0
returns-in-0 c = named _ _ _ _ _ (ap name_of c.in-0.is ∙ names_tell.done) c.put_name.ensures

pub returns-in-1 : goal.returns-in-1
returns-in-1 c = named _ _ _ _ _ (ap name_of c.in-1.is ∙ names_tell.kind) c.put_name-in-1.ensures

pub returns-in-2 : goal.returns-in-2
returns-in-2 c = named _ _ _ _ _ (ap name_of c.in-2.is ∙ names_tell.length) c.put_name-in-2.ensures

pub returns-in-3 : goal.returns-in-3
returns-in-3 c = named _ _ _ _ _ (ap name_of c.in-3.is ∙ names_tell.end) c.put_name-in-3.ensures

pub returns-in-4 : goal.returns-in-4
returns-in-4 c = named _ _ _ _ _ (ap name_of c.in-4.is ∙ names_tell.address) c.put_name-in-4.ensures

pub returns-in-5 : goal.returns-in-5
returns-in-5 c = named _ _ _ _ _ (ap name_of c.in-5.is ∙ names_tell.field 0 0) c.put_name-in-5.ensures

pub returns-in-6 : goal.returns-in-6
returns-in-6 c = named _ _ _ _ _ (ap name_of c.in-6.is ∙ names_tell.wrong_record 0) c.put_name-in-6.ensures

pub returns-in-7 : goal.returns-in-7
returns-in-7 c = named _ _ _ _ _ (ap name_of c.in-7.is ∙ names_tell.room) c.put_name-in-7.ensures

pub returns-in-8 : goal.returns-in-8
returns-in-8 c = named _ _ _ _ _ (ap name_of c.in-8.is ∙ names_tell.time) c.put_name-in-8.ensures

pub returns-in-9 : goal.returns-in-9
returns-in-9 c = named _ _ _ _ _ (ap name_of c.in-9.is ∙ names_tell.desk) c.put_name-in-9.ensures

pub returns-in-10 : goal.returns-in-10
returns-in-10 c = named _ _ _ _ _ (ap name_of c.in-10.is ∙ names_tell.no_answer_due) c.put_name-in-10.ensures

pub returns-in-11 : goal.returns-in-11
returns-in-11 c = named _ _ _ _ _ (ap name_of c.in-11.is ∙ names_tell.in_use) c.put_name-in-11.ensures

pub returns-in-12 : goal.returns-in-12
returns-in-12 c = named _ _ _ _ _ (ap name_of c.in-12.is ∙ names_tell.no_seat) c.put_name-in-12.ensures

pub returns-in-13 : goal.returns-in-13
returns-in-13 c = named _ _ _ _ _ (ap name_of c.in-13.is ∙ names_tell.stray) c.put_name-in-13.ensures

pub returns-in-14 : goal.returns-in-14
returns-in-14 c = named _ _ _ _ _ (ap name_of c.in-14.is ∙ names_tell.ended) c.put_name-in-14.ensures

pub returns-in-15 : goal.returns-in-15
returns-in-15 c = named _ _ _ _ _ (ap name_of c.in-15.is ∙ names_tell.out_of_place) c.put_name-in-15.ensures

pub returns-in-16 : goal.returns-in-16
returns-in-16 c = named _ _ _ _ _ (ap name_of c.in-16.is ∙ names_tell.full) c.put_name-in-16.ensures

pub returns-in-17 : goal.returns-in-17
returns-in-17 c = named _ _ _ _ _ (ap name_of c.in-17.is ∙ names_tell.no_such) c.put_name-in-17.ensures

pub returns-in_default : goal.returns-in_default
returns-in_default c =
    let n = c.args.refusal in
    named _ _ _ _ _ (names_tell.others n (omega arith)) c.put_name-in_default.ensures
