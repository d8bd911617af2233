-- One name for all definitions of this crate, for proofs by computation: what unfolds it unfolds them.
use Rattle.steps.specs.Process.{idle, processes_allowed, operations_allowed}
use Rattle.steps.specs.Rules.{above, resume, advance, after_failed, after_refresh, of_child, help, plus_operation, same_totals, built, block_of, go_telling, go, step}
use Rattle.steps.specs.Machine.{start, process_of, with_process, is_idle, is_q, at_q, begin, step_from, step_of, help_from, help_by}
use Rattle.steps.specs.OwnWords.{position, totals_positions, size_positions, words_at}

unfoldable pub step_rules : Unit {0}
unfolding idle processes_allowed operations_allowed above resume advance after_failed after_refresh of_child help plus_operation same_totals
    built block_of go_telling go step start process_of with_process is_idle is_q at_q begin step_from step_of help_from help_by
    position totals_positions size_positions words_at
step_rules = tt
