-- `block_steps::step_c4` meets its contract.
use mathlib.Core.Path.{◌≡◌, refl, sym, ◌∙◌}
use Rattle.tree.specs.Memory.{block, write_if_absent}
use Rattle.steps.specs.declared.Step.TheVariants.{C4}
use Rattle.steps.specs.Rules.{step, go}
use Rattle.stepping.specs.Clauses.Next.{step_in}
use Rattle.stepping.proofs.StepNames.{busy}
use borrow.Author.Rules.{rules}
use Rattle.block_steps.proofs.step_c4.Goals.{In-C4}
use Rattle.block_steps.proofs.step_c4.Goals as goal

at : (c : In-C4) → step_in c.args.q.status ≡ C4 c.in-C4.visit c.in-C4.built
at c = sym c.step_in.ensures ∙ c.in-C4.is

pub write_if_absent-success-requires : goal.write_if_absent-success-requires
write_if_absent-success-requires c = let p = c.requires.1 _ _ (at (goal.at.write_if_absent-success-requires c).In-C4) in search rules

pub moved-requires : goal.moved-requires
moved-requires c = (search rules, busy _ (at (goal.at.moved-requires c).In-C4) tt)

pub returns : goal.returns
unfolding step go write_if_absent block
returns c =
    let here = at (goal.at.returns c).In-C4 in (
      λ _ _ _. rw c.moved.ensures (
        refl,
        λ k o heads. rw (
          here,
          c.advance.ensures,
          c.after_refresh.ensures,
          c.write_if_absent-success.ensures.words_after,
          c.block_of.ensures,
          c.write_if_absent-success.ensures.value,
        ),
      ),
      λ no. absurd (no _ _ here),
    )
