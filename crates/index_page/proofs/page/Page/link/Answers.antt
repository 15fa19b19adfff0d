use Rattle.index_page.proofs.PartLemmas.{suits_too}
use Rattle.list_facts.proofs.Each.{each_weaker}
use Rattle.index_page.specs.Page.{IsRowOf, linked}
use Rattle.std.proofs.Common.{refl}
use Rattle.index_page.proofs.page.Page.link.Goals as goal

pub invariant_of-self : goal.invariant_of-self
invariant_of-self c =
    let head = c.self.inside.head in
    let rows = c.self.inside.rows in
    let other = linked head c.args.prev c.args.next in
    let before = c.self.invariant in
    record {
      ascend = before.ascend;
      places = before.places;
      each = each_weaker (IsRowOf head) (IsRowOf other) (suits_too head other refl refl) rows before.each;
      fits = before.fits;
      prev = c.requires.prev;
      next = c.requires.next;
    }
