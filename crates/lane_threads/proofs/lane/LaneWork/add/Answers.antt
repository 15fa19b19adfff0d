use Rattle.std.proofs.Common.{ℕ, get_or, set, ◌≡◌, ◌∙◌, ◌∷◌, [], ap}
use Rattle.std.proofs.lemmas.Option.{get_or_from_slice_get}
use Rattle.map_history.specs.declared.counts.Counts.{Counts}
use Rattle.map_history.specs.Lines.{line_text}
use Rattle.map_history.specs.Statistics.{counts_of}
use Rattle.map_history.specs.Told.{columns_told}
use Rattle.column_counts.specs.Sums.{sum_of}
use Rattle.lane_threads.specs.Works.{CountsLine}
use Rattle.lane_threads.proofs.lane.LaneWork.add.Goals as goal

pub returns : goal.returns
returns c =
    let counts = c.args.self.now.counts.items in let line = c.args.line.now in let told = c.args.told.now in
    let counted : CountsLine counts (set counts c.index.result c.count_told.new.counts) line told = λ n there.
    let read : c.index_mut.result.now ≡ n = c.index_mut.ensures.value ∙ (ap (λ (k : ℕ). get_or counts k c.index_mut.result.now) c.index.ensures ∙ get_or_from_slice_get counts (line_text line).op.index n c.index_mut.result.now there) in
    let sum : c.count_told.new.counts ≡ sum_of n (counts_of (columns_told told ∷ [])) = c.in_ok-count_told.ensures.ok ∙ ap (λ (m : Counts). sum_of m (counts_of (columns_told told ∷ []))) read in
    (λ i. set counts (c.index.ensures i) (sum i)) in
    record {
      printed = c.in_ok-add_answer.ensures.ok;
      noted = c.note.ensures.noted;
      counted = counted;
      room = c.note.ensures.room;
    }
