-- A call that is not turned down plays its records from the start.
use Prim.Native.Nat.{ℕ, ◌*◌, ◌≤◌}
use mathlib.Core.Path.{refl, ap, sym, ◌∙◌}
use mathlib.Core.List.{List, ◌++◌}
use lib.ListN.{length, take, drop, replicate, length-replicate}
use lib.Seq.{take_at, drop_at}
use Rattle.tree.specs.Shape.{Shape, shape_for}
use Rattle.tree.specs.Layout.{words_needed}
use Rattle.calls.proofs.Theorem.{tall_for}
use Rattle.steps.proofs.Limits.{allowed_most, allowed_width, short_for}
use Rattle.player.specs.Clauses.PlayCalls.{AtStart}
use Rattle.call_player.specs.Clauses.Callable.{Callable}

module _ {p l : ℕ} {heads : List ℕ} {words room bytes : ℕ} (k : Callable p l heads words room bytes) where
  abbrev s : Shape
  s = shape_for p l

  pub call_starts : AtStart s heads (replicate (words_needed s) 0) room bytes
  unfolding shape_for
  call_starts =
      let width = allowed_width p l k.processes in
      record {
        inner = tall_for p l;
        tall = short_for p l;
        few = (allowed_most l k.most).1;
        words = refl;
        ones = k.ones ∙ ap (λ (x : ℕ). replicate (2 * x) 1) (sym width);
        bounded = k.bounded;
      }
