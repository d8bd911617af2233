-- One name for all definitions of the desk, for proofs by computation: what unfolds it unfolds them.
use Rattle.calls.specs.All.{rules}
use Rattle.desk_rules.specs.Entries.{first_entry, is_entry, term_of, is_foreign, term_size, term_bytes}
use Rattle.desk_rules.specs.DeskRefusals.{desk_number, delivers, by_queue, first_desk_refusal, licence_refusal, desk_call_refusal}
use Rattle.desk_rules.specs.Desk.{served, serve_record, serve, term_in, terms, sent, output_refusal, desk_served, desk}
use Rattle.desk_rules.specs.Deliveries.{Rising, values_put, with_numbers, replies}

unfoldable pub desk_rules : Unit {0}
unfolding rules first_entry is_entry term_of is_foreign term_size term_bytes desk_number delivers by_queue first_desk_refusal licence_refusal desk_call_refusal
    served serve_record serve term_in terms sent output_refusal desk_served desk Rising values_put with_numbers replies
desk_rules = tt
