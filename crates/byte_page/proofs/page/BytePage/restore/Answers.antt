use Rattle.std.proofs.Common.{◌≡◌, Bool, true, false, cond, Option, Some, None, sym, subst}
use Rattle.std.proofs.lemmas.Bool.{false≢true}
use Rattle.std.specs.Prelude.{IsSome}
use Rattle.byte_page.specs.Form.{GappedPage}
use Rattle.byte_page.proofs.page.BytePage.restore.Goals as goal

-- what was saved is there
kept : (saved : Bool) (page : GappedPage) (copy : Option GappedPage) → cond saved (Some page) None ≡ copy → IsSome copy → copy ≡ Some page
kept true page copy view there = sym view
kept false page copy view there = absurd (false≢true (subst IsSome (sym view) there))

pub returns : goal.returns
returns c =
    let saved = kept c.copy.inside.saved c.copy.inside.page c.args.copy.now c.copy.view_is c.requires in
    cc
