-- `build_steps::step_c3n_on` meets its contract.
use mathlib.Core.Path.{◌≡◌, refl, sym, ◌∙◌}
use Rattle.steps.specs.declared.Step.TheVariants.{C3N}
use Rattle.steps.specs.Rules.{built}
use Rattle.stepping.specs.Clauses.Next.{step_in}
use Rattle.steps.specs.Clauses.Ready.{Decides}
use Rattle.stepping.proofs.StepNames.{same_registers, busy}
use borrow.Author.Rules.{rules}
use Rattle.build_steps.proofs.step_c3n_on.Goals.{In-C3N}
use Rattle.build_steps.proofs.step_c3n_on.Goals as goal

at : (c : In-C3N) → step_in c.args.q.status ≡ C3N c.in-C3N.visit c.in-C3N.left c.in-C3N.right c.in-C3N.puts c.in-C3N.takes
at c = sym c.step_in.ensures ∙ c.in-C3N.is

-- what is required of the memory at this C3N
decides : (c : In-C3N) → let a = c.args in Decides a.layout.now a.table.now c.in-C3N.visit c.in-C3N.puts c.in-C3N.takes
decides c = c.requires.1 _ _ _ _ _ (at c)

pub returns-in_default : goal.returns-in_default
returns-in_default c = (λ a b i j k e. absurd (c.in_default.not-C3N a b i j k (c.step_in.ensures ∙ e)), λ _. refl)

pub overflow_sub-visit : goal.overflow_sub-visit
overflow_sub-visit c = let p = decides (goal.at.overflow_sub-visit c).In-C3N in search rules

pub totals_at-old-requires : goal.totals_at-old-requires
totals_at-old-requires c = (decides (goal.at.totals_at-old-requires c).In-C3N).place

pub size_of-size-requires : goal.size_of-size-requires
size_of-size-requires c = (decides (goal.at.size_of-size-requires c).In-C3N, c.totals_at-old.ensures)

pub moved-requires : goal.moved-requires
moved-requires c = (c.requires.0, busy _ (at (goal.at.moved-requires c).In-C3N) tt)

pub returns : goal.returns
unfolding built
returns c =
    let here = at (goal.at.returns c).In-C3N in (
      λ _ _ _ _ _ e.
          let same = same_registers (sym here ∙ e) in
          rw (← same.0, ← same.1, ← same.2, ← same.3, ← same.4, ← c.size_of-size.ensures 0 0) c.moved.ensures,
      λ no. absurd (no _ _ _ _ _ here),
    )
