-- A list at the desk is a run of the queue up to the first foreign entry.
use Rattle.std.specs.Prelude.{if◌then◌else◌, Err}
use Prim.Native.Nat.{ℕ}
use mathlib.Core.Path.{◌≡◌, refl, ap, sym, ◌∙◌}
use mathlib.Core.Bool.{Bool, true, false, and-true, and-false}
use mathlib.Core.List.{List, [], ◌∷◌, foldl}
use Rattle.base.specs.Members.{All}
use Rattle.base.proofs.Cases.{cases}
use Rattle.record.specs.declared.StepRecord.{StepRecord}
use Rattle.tree.specs.Shape.{Shape}
use Rattle.calls.specs.Refusals.{Acceptance, accepted}
use Rattle.calls.specs.Run.{Played, play_record}
use Rattle.calls.proofs.Played.{over_stays}
use Rattle.desk_rules.specs.declared.DeskRefusal.TheVariants.{ForeignEntry}
use Rattle.desk_rules.specs.Entries.{is_foreign}
use Rattle.desk_rules.specs.DeskRefusals.{DeskAcceptance, delivers, by_queue}
use Rattle.desk_rules.specs.Desk.{Served, served, serve_record}

pub queue_delivers : (n : Acceptance) → delivers (by_queue n) ≡ accepted n
unfolding delivers by_queue
queue_delivers n = cases (λ (d : DeskAcceptance). delivers d ≡ accepted n) (accepted n) (λ e. sym e) (λ e. sym e)

-- what the queue makes of its records delivers if they are not refused
pub served_delivers : (g : Played) → delivers (served g).refusal ≡ accepted g.refusal
unfolding served
served_delivers g = queue_delivers g.refusal

module _ (s : Shape) (room licensed : ℕ) where
  -- ---- one record
  play_over : (g : Played) (r : StepRecord) → accepted g.refusal ≡ false → play_record s room g r ≡ g
  play_over g r e = over_stays s room g e (r ∷ [])

  pub serve_plain : (g : Played) (r : StepRecord) → is_foreign licensed r ≡ false → serve_record s room licensed (served g) r ≡ served (play_record s room g r)
  unfolding serve_record served
  serve_plain g r e = on (accepted g.refusal) refl
    where
      on : (b : Bool) → accepted g.refusal ≡ b → serve_record s room licensed (served g) r ≡ served (play_record s room g r)
      on true z = rw (served_delivers g, z, e, and-false (accepted (play_record s room g r).refusal))
      on false z = rw (served_delivers g, z) (ap served (sym (play_over g r z)))

  -- a foreign entry that the queue would take is refused, and one that it refuses is refused as it does
  pub serve_foreign : (g : Played) (r : StepRecord) → is_foreign licensed r ≡ true
      → serve_record s room licensed (served g) r
      ≡ (if accepted (play_record s room g r).refusal then record { run = g; refusal = Err ForeignEntry } else served (play_record s room g r))
  unfolding serve_record served
  serve_foreign g r e = on (accepted g.refusal) refl
    where
      on : (b : Bool) → accepted g.refusal ≡ b
          → serve_record s room licensed (served g) r
          ≡ (if accepted (play_record s room g r).refusal then record { run = g; refusal = Err ForeignEntry } else served (play_record s room g r))
      on true z = rw (served_delivers g, z, e, and-true (accepted (play_record s room g r).refusal))
      on false z = rw (served_delivers g, z, play_over g r z, z)

  -- ---- a list
  pub served_on : (g : Played) (rs : List StepRecord) → All (λ r. is_foreign licensed r ≡ false) rs
      → foldl (serve_record s room licensed) (served g) rs ≡ served (foldl (play_record s room) g rs)
  served_on g [] p = refl
  served_on g (r ∷ rs) p = ap (λ d. foldl (serve_record s room licensed) d rs) (serve_plain g r p.0) ∙ served_on (play_record s room g r) rs p.1

  -- one that is refused stays as it is
  pub over : (d : Served) → delivers d.refusal ≡ false → (rs : List StepRecord) → foldl (serve_record s room licensed) d rs ≡ d
  unfolding serve_record
  over d e [] = refl
  over d e (r ∷ rs) = rw e (over d e rs)
