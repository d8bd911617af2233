-- A call that is not turned down can be played.
use Prim.Native.Nat.{ℕ, ◌*◌, ◌≤◌}
use native.Mathlib.Omega.{arith}
use mathlib.Core.Path.{◌≡◌, ap, ◌∙◌}
use mathlib.Core.Logic.{◌⊎◌}
use mathlib.Core.Bool.{true}
use mathlib.Core.List.{List}
use lib.ListN.{length, take, replicate}
use lib.Seq.{length-take-le}
use Rattle.base.proofs.Repeats.{take_replicate}
use Rattle.calls.specs.Refusals.{accepted, call_refusal}
use Rattle.calls.proofs.CallAccepted.{accepted_processes, accepted_operations, accepted_enough}
use Rattle.steps.proofs.Limits.{allowed_narrow}
use Rattle.call_player.specs.Clauses.Callable.{Callable}

-- with 16 heads of which each is 1
module _ (p l words bytes : ℕ) (ok : accepted (call_refusal p l words bytes) ≡ true) (heads : List ℕ) (ones : heads ≡ replicate 16 1) where
  narrow : p ≤ 8
  narrow = allowed_narrow p l (accepted_processes p l words bytes ok)

  -- the first 2p are those of the nodes
  pub accepted_heads : 2 * p ≤ length heads
  accepted_heads = omega (arith, narrow, ap length ones)

  pub accepted_nodes : length (take (2 * p) heads) ≡ 2 * p
  accepted_nodes = length-take-le (2 * p) heads accepted_heads

  pub accepted_callable : {room size : ℕ} → (size ≡ 0) ⊎ (size ≡ room) → Callable p l (take (2 * p) heads) words room size
  accepted_callable b =
      record {
        processes = accepted_processes p l words bytes ok;
        most = accepted_operations p l words bytes ok;
        ones = ap (take (2 * p)) ones ∙ take_replicate 1 (2 * p) 16 (omega (arith, narrow));
        enough = accepted_enough p l words bytes ok;
        bounded = b;
      }
