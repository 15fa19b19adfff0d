-- The cut of a spot.
use Rattle.std.proofs.Common.{◌≡◌, List, length, length-append, take, drop, sym, ap, subst, arith}
use Rattle.std.proofs.Math.Seq.{take-append_seam, drop-append_seam}
use Rattle.key_tuple.specs.Order.{FieldList}
use Rattle.key_tuple.specs.KeyPlace.{cut_of}
use Rattle.key_tuple.specs.declared.mode.Mode.{Mode}
use Rattle.index_page.specs.declared.spot.Spot.{Spot}
use Rattle.index_page.specs.Rows.{Row}
use Rattle.index_page.specs.Search.{AllOut, AllIn, Finds, CutsAt}

-- a spot knows where its mode's cut is
pub spot_cuts : (mode : Mode) (tuple : FieldList) (rows : List Row) (spot : Spot) → Finds mode tuple rows spot → CutsAt mode tuple rows spot.cut
spot_cuts mode tuple rows spot found =
    let taken : take spot.cut rows ≡ found.left = cc (take-append_seam found.left found.right, found.split, found.cut) in
    let dropped : drop spot.cut rows ≡ found.right = cc (drop-append_seam found.left found.right, found.split, found.cut) in
    record {
      within = omega (arith, found.cut, ap length found.split, length-append found.left found.right);
      out = subst (AllOut (cut_of mode tuple)) (sym taken) found.out;
      past = subst (AllIn (cut_of mode tuple)) (sym dropped) found.past;
    }
