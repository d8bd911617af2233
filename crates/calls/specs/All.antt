-- One name for all definitions of the rules, for proofs by computation: what unfolds it unfolds them.
use Rattle.record.specs.All.{records}
use Rattle.tree.specs.All.{trees}
use Rattle.steps.specs.All.{step_rules}
use Rattle.calls.specs.Answer.{margin, put_number, value_of, by_margin, take_reply, reply_of, answer_of, answers_from, answers_of}
use Rattle.calls.specs.Refusals.{paper_number, refusal_number, accepted, torn, first_refusal, settings_refusal, bytes_refusal, buffer_refusal, call_refusal, begin_refusal, step_refusal, record_refusal}
use Rattle.calls.specs.Numbered.{numbered_after, numbered}
use Rattle.calls.specs.Run.{operation_of, take_record, record_answers, at_start, taking, refusing, play_record, play, run_turned_down, run_played, run}
use Rattle.order.specs.OrderList.{kind_number, order_record, order_list}
use Rattle.calls.specs.ListOrder.{play_all, list_refusal, listed, list_played, list_order}
use Rattle.calls.specs.CheckLog.{same_bytes, compared, check_refusal, verdict_number, verdict_index, verdict_refusal, checked, verdict_on, check_played, check_turned_down, check_log}
use Rattle.calls.specs.LogVerdict.{log_of_rules, record_at}
use Rattle.calls.specs.PlainQueue.{fed, answers}
use Rattle.calls.specs.History.{operation, begun_by, course_start, next_event, course_record, course_after, machine_after, history}
use Rattle.calls.specs.History.{is_opening, is_own_step, is_own_help, is_finish, is_opened, is_finished, finished_before, own_steps, own_helps, does}
use Rattle.calls.specs.Demand3.{queue_after, queue_answer, queue_record, finishing, step_limit}
use Rattle.calls.specs.Linearizable.{response, precedes}
use Rattle.calls.specs.Forecast.{record_limit, begins, planned_refusal, begins_refusal, forecast_refusal, foreseen, forecast, begin_records}

unfoldable pub rules : Unit {0}
unfolding records trees step_rules margin put_number value_of by_margin take_reply reply_of answer_of answers_from answers_of
    paper_number refusal_number accepted torn first_refusal settings_refusal bytes_refusal buffer_refusal call_refusal begin_refusal step_refusal
    record_refusal numbered_after numbered operation_of take_record record_answers at_start taking refusing play_record play run_turned_down run_played
    run kind_number order_record order_list play_all list_refusal listed list_played list_order same_bytes compared
    check_refusal verdict_number verdict_index verdict_refusal checked verdict_on check_played check_turned_down check_log log_of_rules record_at
    fed answers operation begun_by course_start next_event course_record course_after machine_after history is_opening is_own_step is_own_help
    is_finish is_opened is_finished finished_before own_steps own_helps does queue_after queue_answer queue_record finishing
    step_limit response precedes record_limit begins planned_refusal begins_refusal forecast_refusal foreseen forecast begin_records
rules = tt
