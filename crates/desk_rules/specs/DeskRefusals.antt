-- What the desk turns down: its refusals, their numbers, and the tests of a call before its first record.
use Rattle.std.specs.Prelude.{ℕ, Bool, true, false, leb, if◌then◌else◌, Result, Ok, Err}
use Rattle.tree.specs.Shape.{shape_for}
use Rattle.calls.specs.Refusals.{Acceptance, refusal_number, accepted, settings_refusal, buffer_refusal}
use Rattle.desk_rules.specs.declared.DeskRefusal.{DeskRefusal}
use Rattle.desk_rules.specs.declared.DeskRefusal.TheVariants.{Queue, Licence, ForeignEntry, OutputShort}

-- the paper's number of a refusal
unfoldable pub desk_number : DeskRefusal → ℕ
desk_number (Queue n) = n
desk_number Licence = 13
desk_number ForeignEntry = 14
desk_number OutputShort = 10

-- what a test comes to: nothing, or why it refuses
abbrev pub DeskAcceptance : Type 0
DeskAcceptance = Result (Unit {0}) DeskRefusal

-- nothing is refused
unfoldable pub delivers : DeskAcceptance → Bool
delivers (Ok passed) = true
delivers (Err why) = false

-- a refusal of the queue, by its number there, or none
unfoldable pub by_queue : Acceptance → DeskAcceptance
by_queue n = if accepted n then Ok tt else Err (Queue (refusal_number n))

-- of two tests, the first that refuses
unfoldable pub first_desk_refusal : DeskAcceptance → DeskAcceptance → DeskAcceptance
first_desk_refusal a b = if delivers a then b else a

-- a licensed process not below p: 13
unfoldable pub licence_refusal : ℕ → ℕ → DeskAcceptance
licence_refusal p licensed = if leb p licensed then Err Licence else Ok tt

-- a call before its first record: 1, 2, 13, 3, 4
unfoldable pub desk_call_refusal : ℕ → ℕ → ℕ → ℕ → ℕ → DeskAcceptance
desk_call_refusal p l licensed words bytes =
    first_desk_refusal (by_queue (settings_refusal p l))
    (first_desk_refusal (licence_refusal p licensed) (by_queue (buffer_refusal (shape_for p l) words bytes)))
