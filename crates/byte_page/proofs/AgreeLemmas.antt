-- Values that are set on a page in bytes and on a plain one.
use Rattle.std.proofs.Common.{◌≡◌, ℕ, Bool, true, false, cond, nat_lt, Option, Some, None, option_and_then, List, ◌-◌}
use Rattle.index_page.specs.declared.error.PageError.TheVariants.{PageFull, Scattered}
use Rattle.index_page.specs.declared.room.Gaps.{Gaps}
use Rattle.index_page.specs.Rows.{Row, Bytes, find_row}
use Rattle.index_page.specs.Changes.{page_without}
use Rattle.index_page.specs.Loads.{charge_of}
use Rattle.index_page.specs.Refusals.{free_of, takes, room_refusal, is_as_long, gaps_of}
use Rattle.byte_page.specs.Form.{GappedPage}
use Rattle.byte_page.specs.Setting.{gaps_less, SetsAgree}
use Rattle.byte_page.proofs.ReplaceLemmas.{sets_again}

-- a page is full whatever its gaps are
full_alike : (need free n f : ℕ) (g h : Gaps) → room_refusal need free g ≡ Some (PageFull n f) → room_refusal need free h ≡ Some (PageFull n f)
full_alike need free n f g h e = go (nat_lt free need) (takes g (need - 1)) e
  where
    go : (b t : Bool) → cond b (Some (PageFull need free)) (cond t None (Some (Scattered need g.rest))) ≡ Some (PageFull n f)
        → cond b (Some (PageFull need free)) (cond (takes h (need - 1)) None (Some (Scattered need h.rest))) ≡ Some (PageFull n f)
    go true t e = e
    go false true e = absurd cc
    go false false e = absurd cc

-- so a value is refused as too long by both
set_alike : (form : GappedPage) (place : ℕ) (value : List ℕ) (n f : ℕ) (g h : Row → Gaps) (o : Option Row)
    → option_and_then (λ (row : Row). cond (is_as_long value row.body) None (room_refusal (charge_of row.key (Bytes value)) (free_of (page_without place form.page)) (g row))) o ≡ Some (PageFull n f)
    → option_and_then (λ (row : Row). cond (is_as_long value row.body) None (room_refusal (charge_of row.key (Bytes value)) (free_of (page_without place form.page)) (h row))) o ≡ Some (PageFull n f)
set_alike form place value n f g h None e = absurd cc
set_alike form place value n f g h (Some row) e = go (is_as_long value row.body) e
  where
    go : (b : Bool) → cond b None (room_refusal (charge_of row.key (Bytes value)) (free_of (page_without place form.page)) (g row)) ≡ Some (PageFull n f)
        → cond b None (room_refusal (charge_of row.key (Bytes value)) (free_of (page_without place form.page)) (h row)) ≡ Some (PageFull n f)
    go true e = absurd cc
    go false e = full_alike (charge_of row.key (Bytes value)) (free_of (page_without place form.page)) n f (g row) (h row) e

pub sets_agree : SetsAgree
sets_agree = record {
  done = λ old new place other value s. sets_again s;
  full = λ form place value need free e. set_alike form place value need free (λ row. gaps_of (page_without place form.page)) (gaps_less form) (find_row place form.page.rows) e;
  no_more = λ form place value need free e. set_alike form place value need free (gaps_less form) (λ row. gaps_of (page_without place form.page)) (find_row place form.page.rows) e;
}
