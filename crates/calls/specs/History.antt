-- The history of a run: what each record that was taken did, as an event of an operation; a fold over the records.
use Rattle.std.specs.Prelude.{ℕ, suc, ◌+◌, Bool, false, ◌&&◌, ◌||◌, eqb, if◌then◌else◌}
use mathlib.Core.List.{List, [], ◌∷◌, ◌++◌, foldl}
use Rattle.record.specs.StepRecords.{is_begin}
use Rattle.tree.specs.Shape.{Shape}
use Rattle.tree.specs.Order.{OpId}
use Rattle.tree.specs.Standing.{same}
use Rattle.steps.specs.declared.Operation.{Operation}
use Rattle.steps.specs.declared.Operation.TheVariants.{Take}
use Rattle.steps.specs.Machine.{Machine, start, process_of, at_q, help_by}
use Rattle.calls.specs.Numbered.{Numbered}
use Rattle.calls.specs.Run.{operation_of, take_record}

-- a record opens an operation, does a step of it, of which is known whether it was a help, or does its Q, with which it
-- finishes
pub data Event : Type 0 where
  opens : OpId → Operation → Event
  moves : OpId → Bool → Event
  finishes : OpId → Event

-- ---- the events of the records

-- the operation of a process with that serial, its number among the process's begins
unfoldable pub operation : ℕ → ℕ → OpId
operation k serial = record { process = k; serial = serial }

-- the operations that process k has opened in a history
unfoldable pub begun_by : ℕ → List Event → ℕ
begun_by k [] = 0
begun_by k (opens x o ∷ h) = let n = begun_by k h in if eqb x.process k then suc n else n
begun_by k (moves x helped ∷ h) = begun_by k h
begun_by k (finishes x ∷ h) = begun_by k h

-- the course of a run: what the records left of the machine, and their events
pub record Course : Type 0 where
  pub machine : Machine
  pub events : List Event

unfoldable pub course_start : Shape → Course
course_start s = record { machine = start s; events = [] }

-- the event of the next record: a begin opens the next operation of its process, a step is one of the last that its
-- process opened. Which step is a Q, and which a help, the step rules say of the machine so far: its process is at Q,
-- or the step moves a child's head inside a refresh.
unfoldable pub next_event : Shape → Course → Numbered → Event
next_event s c n =
    let r = n.item in
    let k = r.process in
    let serial = begun_by k c.events in
    if is_begin r then opens (operation k (serial + 1)) (operation_of r)
    else (if at_q (process_of c.machine k).status then finishes (operation k serial)
    else moves (operation k serial) (help_by s n.number c.machine k))

unfoldable pub course_record : Shape → Course → Numbered → Course
course_record s c n =
    record { machine = take_record s c.machine n; events = c.events ++ (next_event s c n ∷ []) }

-- the records one after the other
unfoldable pub course_after : Shape → List Numbered → Course
course_after s ns = foldl (course_record s) (course_start s) ns

-- the machine that they left, and their events in list order
unfoldable pub machine_after : Shape → List Numbered → Machine
machine_after s ns = (course_after s ns).machine

unfoldable pub history : Shape → List Numbered → List Event
history s ns = (course_after s ns).events

-- ---- what a history says of an operation

-- event e opens x; is a step of x, Q included; is a help of x; finishes x
unfoldable pub is_opening : OpId → Event → Bool
is_opening x (opens y o) = same x y
is_opening x (moves y helped) = false
is_opening x (finishes y) = false

unfoldable pub is_own_step : OpId → Event → Bool
is_own_step x (opens y o) = false
is_own_step x (moves y helped) = same x y
is_own_step x (finishes y) = same x y

unfoldable pub is_own_help : OpId → Event → Bool
is_own_help x (opens y o) = false
is_own_help x (moves y helped) = helped && same x y
is_own_help x (finishes y) = false

unfoldable pub is_finish : OpId → Event → Bool
is_finish x (opens y o) = false
is_finish x (moves y helped) = false
is_finish x (finishes y) = same x y

-- x is an operation: some record opened it
unfoldable pub is_opened : OpId → List Event → Bool
is_opened x [] = false
is_opened x (e ∷ h) = is_opening x e || is_opened x h

-- x finished
unfoldable pub is_finished : OpId → List Event → Bool
is_finished x [] = false
is_finished x (e ∷ h) = is_finish x e || is_finished x h

-- x finished before y began: the record of its Q comes earlier in the list than the begin of y
unfoldable pub finished_before : OpId → OpId → List Event → Bool
finished_before x y [] = false
finished_before x y (e ∷ h) = (is_finish x e && is_opened y h) || finished_before x y h

-- the own steps of x: the kind 0 records of its process after its begin, up to and with its Q, or to the end of the run
-- where it has none (after its Q a process takes no step before its next begin: that is refused with 7)
unfoldable pub own_steps : OpId → List Event → ℕ
own_steps x [] = 0
own_steps x (e ∷ h) = let n = own_steps x h in if is_own_step x e then suc n else n

-- the helps of x: those of its own steps that moved a child's head inside a refresh
unfoldable pub own_helps : OpId → List Event → ℕ
own_helps x [] = 0
own_helps x (e ∷ h) = let n = own_helps x h in if is_own_help x e then suc n else n

-- the kind and value of x: those of its begin record
unfoldable pub does : OpId → List Event → Operation
does x [] = Take
does x (opens y o ∷ h) = let r = does x h in if same x y then o else r
does x (moves y helped ∷ h) = does x h
does x (finishes y ∷ h) = does x h
