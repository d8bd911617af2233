-- `Process::is_idle` meets its contract.
use Rattle.steps.specs.Machine.{is_idle}
use Rattle.steps.proofs.Process.is_idle.Goals as goal

pub returns-in-Idle : goal.returns-in-Idle
unfolding is_idle
returns-in-Idle c = rw c.in-Idle.is

pub returns-in-Busy : goal.returns-in-Busy
unfolding is_idle
returns-in-Busy c = rw c.in-Busy.is
