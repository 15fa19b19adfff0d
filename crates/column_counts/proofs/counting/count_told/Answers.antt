use Rattle.std.proofs.Common.{◌≡◌, ℕ, Option, ap, ◌∙◌, sym, length, refl}
use Rattle.list_facts.proofs.Outcomes.{when_err}
use Rattle.column_counts.specs.Places.{how_place, note_place, raised_at}
use Rattle.column_counts.proofs.PlaceLemmas.{raised_long, raised_both}
use Rattle.column_counts.proofs.counting.count_told.Goals as goal

pub returns-clause-ok : goal.returns-clause-ok
returns-clause-ok c =
    let numbers = c.args.counts.now.numbers in
    let first : c.raise.new.numbers ≡ raised_at c.how_place.result numbers = c.in_ok-raise.ensures in
    let second : c.raise-2.new.numbers ≡ raised_at c.note_place.result c.raise.new.numbers = c.in_ok-raise-2.ensures in
    let long : length numbers ≡ 18 = sym (raised_long c.how_place.result numbers) ∙ (ap length (sym first) ∙ c.raise.array_long) in
    let places : raised_at c.note_place.result c.raise.new.numbers ≡ raised_at (note_place c.args.note) (raised_at (how_place c.args.how) numbers) = (λ i. raised_at (c.note_place.ensures i) ((first ∙ ap (λ (p : Option ℕ). raised_at p numbers) c.how_place.ensures) i)) in
    let all = second ∙ (places ∙ raised_both c.args.how c.args.note numbers long) in
    λ i. record { numbers = all i }

pub returns-in_err-raise-2-clause-err : goal.returns-in_err-raise-2-clause-err
returns-in_err-raise-2-clause-err c = when_err c.from_residual-in_err-raise-2.result refl
