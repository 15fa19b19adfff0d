use Rattle.std.proofs.Common.{sym, ap, subst, ◌∙◌}
use Rattle.list_facts.proofs.Places.{same_some}
use Rattle.forest_law.specs.State.{bound}
use Rattle.tree_merging.specs.Merges.{KeyStands}
use Rattle.tree_merging.proofs.FrameLemmas.{pointer_stands}
use Rattle.tree_merging.proofs.pointer.take_pointer.Goals as goal

pub delete_key-requires : goal.delete_key-requires
delete_key-requires c = let at = c.requires.0 in let both = c.requires.2 in
    subst (KeyStands c.in-Some-Some.page)
    (same_some at c.in-Some-Some.low.tuple
    (sym c.requires.1 ∙ ap bound c.in-Some-Some.is-1))
    (pointer_stands both.0 both.1 c.args.parent.now at both.2 c.in-Some-Some.page
    c.in-Some-Some.is-0)
