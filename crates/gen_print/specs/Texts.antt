-- The text that `gen` prints.
use Rattle.std.specs.Prelude.{ℕ, List, [], ◌∷◌, ◌++◌, length, codes, decimal}
use Rattle.std.specs.List.{flat_map, enumerate_from}
use Rattle.map_history.specs.Text.{line_of}
use Rattle.reply_counts.specs.declared.counting.ReplyCounts.{ReplyCounts}
use Rattle.report_print.specs.Texts.{end_line}
use Rattle.gen_print.specs.declared.printing.Generated.{Generated}

-- the first line: the command, with how many lanes there are
abbrev pub gen_line : Generated → List ℕ
gen_line g = line_of (codes "ahi" ∷ codes "gen" ∷ decimal g.number
    ∷ decimal (length g.replies.now) ∷ decimal g.lines ∷ [])

-- the line of a lane: its number, and how many of its answers have each reply
abbrev pub replies_line : ℕ × ReplyCounts → List ℕ
replies_line lane = line_of (codes "lane" ∷ decimal lane.0
    ∷ codes "ok" ∷ decimal lane.1.ok ∷ codes "found" ∷ decimal lane.1.found
    ∷ codes "absent" ∷ decimal lane.1.absent ∷ codes "duplicate" ∷ decimal lane.1.duplicate ∷ [])

-- the line of the rows and the changes
abbrev pub rows_line : Generated → List ℕ
rows_line g =
    line_of (codes "rows" ∷ decimal g.rows ∷ codes "changes" ∷ decimal g.changes ∷ [])

-- all that is printed: the lanes are numbered from 1
abbrev pub gen_text : Generated → List ℕ
gen_text g = gen_line g ++ (flat_map replies_line (enumerate_from 1 g.replies.now)
    ++ (rows_line g ++ end_line))
