use Rattle.std.proofs.Common.{inl, refl}
use Rattle.mill_answer.proofs.telling.tell_read_fault.Goals as goal

pub returns-in-Job : goal.returns-in-Job
returns-in-Job g c = rw c.in-Job.is c.tell.ensures

pub returns-in-Part : goal.returns-in-Part
returns-in-Part g c = rw c.in-Part.is c.tell-in-Part.ensures

pub returns-in-Program : goal.returns-in-Program
returns-in-Program g c = rw c.in-Program.is c.tell-in-Program.ensures

pub returns-in-List : goal.returns-in-List
returns-in-List g c = rw c.in-List.is c.tell-in-List.ensures

pub returns-in-Ok : goal.returns-in-Ok
returns-in-Ok g c = rw c.in-StepProgram.is (inl (record { wanted_is = refl; written = c.in-Ok.ensures.whole }))
