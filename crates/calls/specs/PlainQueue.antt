-- The plain queue: a list of values, empty at first, that is fed operations one at a time.
use Rattle.std.specs.Prelude.{ℕ, List, [], ◌∷◌, ◌++◌}
use Rattle.record.specs.declared.Reply.{Reply}
use Rattle.record.specs.declared.Reply.TheVariants.{Done, Value, Nothing}
use Rattle.steps.specs.declared.Operation.{Operation}
use Rattle.steps.specs.declared.Operation.TheVariants.{Put, Take}

-- a put adds its value at the back; a take removes the front value, and from an empty list changes nothing
unfoldable pub fed : Operation → List ℕ → List ℕ
fed (Put x) q = q ++ (x ∷ [])
fed Take [] = []
fed Take (x ∷ q) = q

-- a put is done; a take answers the front value, and from an empty list none
unfoldable pub answers : Operation → List ℕ → Reply
answers (Put x) q = Done
answers Take [] = Nothing
answers Take (x ∷ q) = Value x
