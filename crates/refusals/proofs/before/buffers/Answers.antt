-- `before::buffers` meets its contract.
use borrow.Author.Tests.{lt-ltb, le-ltb}
use Rattle.calls.specs.Refusals.{buffer_refusal}
use Rattle.calls.proofs.CallAccepted.{settings_operations}
use Rattle.steps.proofs.Limits.{allowed_most}
use Rattle.refusals.proofs.before.buffers.Goals as goal

pub new-requires : goal.new-requires
new-requires c = (allowed_most _ (settings_operations _ _ c.requires)).1

pub returns-then-words-words_needed : goal.returns-then-words-words_needed
unfolding buffer_refusal
returns-then-words-words_needed c = rw (← c.new.ensures, ← c.words_needed.ensures.0, lt-ltb _ _ c.if-words-words_needed.true)

pub returns : goal.returns
unfolding buffer_refusal
returns c = rw (← c.new.ensures, ← c.words_needed.ensures.0, le-ltb _ _ c.if-words-words_needed.false) c.of_bytes.ensures
