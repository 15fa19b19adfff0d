-- What the reports look like.
use Rattle.std.specs.Prelude.{ℕ, List, [], ◌∷◌, ◌++◌, codes}
use Rattle.std.specs.List.{flat_map}

-- lines, each with its end
abbrev pub lines : List (List ℕ) → List ℕ
lines texts = flat_map (λ (text : List ℕ). text ++ 10 ∷ []) texts

-- the statistics where each answer has the columns `cold no`: how often `cold` stands
abbrev pub cold_stats : List ℕ → List ℕ
cold_stats times =
    codes "stats t hit 0 off 0 cold " ++ times
    ++ codes " short 0 part-busy 0 no-entry 0 block-busy 0 clock 0 "
    ++ codes "unequal 0 by-clock 0 by-busy 0 by-moved 0 by-last 0 built 0 same 0 arena 0 raced 0 "
    ++ codes "worn 0"

-- the report of an empty lane
abbrev pub empty_lane_bytes : List ℕ
empty_lane_bytes =
    lines (codes "ahi run" ∷ codes "lane 1" ∷ codes "changes t 0" ∷ cold_stats (codes "0")
    ∷ codes "end" ∷ [])

-- the report of a put, a get, a del and a get of one key
abbrev pub row_life_bytes : List ℕ
row_life_bytes = lines (codes "ahi run" ∷ codes "lane 1" ∷ codes "1 ok @1 cold no"
    ∷ codes "2 found x @1 cold no" ∷ codes "3 ok @2 cold no" ∷ codes "4 absent @2 cold no"
    ∷ codes "changes t 2" ∷ codes "1 1 1 put a x" ∷ codes "2 1 3 del a" ∷ cold_stats (codes "4")
    ∷ codes "end" ∷ [])

-- the report of three puts and a scan
abbrev pub puts_and_scan_bytes : List ℕ
puts_and_scan_bytes = lines
    (codes "ahi run" ∷ codes "lane 1" ∷ codes "1 ok @1 cold no" ∷ codes "2 ok @2 cold no"
    ∷ codes "3 ok @3 cold no" ∷ codes "4 scan 1 3" ∷ codes "piece @3 3 cold no"
    ∷ codes "row a,~ 3" ∷ codes "row a,%00 2" ∷ codes "row ab,~ 1" ∷ codes "changes t 3"
    ∷ codes "1 1 1 put ab,~ 1" ∷ codes "2 1 2 put a,%00 2" ∷ codes "3 1 3 put a,~ 3"
    ∷ cold_stats (codes "4") ∷ codes "end" ∷ [])
