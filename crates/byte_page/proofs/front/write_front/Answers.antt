use Rattle.std.proofs.Common.{◌∙◌}
use Rattle.byte_page.proofs.FrontLemmas.{head_written}
use Rattle.byte_page.proofs.front.write_front.Goals as goal

pub returns-clause-head : goal.returns-clause-head
returns-clause-head c =
    head_written c.args.head.now c.put_u32.ensures.value c.put_links.ensures.kept c.put_links.ensures.prev c.put_links.ensures.next c.put_u16.ensures.kept
    c.put_u16-2.ensures.kept c.put_u16-3.ensures.kept c.put_u16-3.ensures.value c.put_u32-2.ensures.kept c.put_u32-3.ensures.kept c.put_u32-3.ensures.value

pub returns-clause-len : goal.returns-clause-len
returns-clause-len c =
    c.put_u32-3.ensures.kept.len ∙ c.put_u32-2.ensures.kept.len ∙ c.put_u16-3.ensures.kept.len ∙ c.put_u16-2.ensures.kept.len ∙ c.put_u16.ensures.kept.len
    ∙ c.put_links.ensures.kept.len ∙ c.put_u32.ensures.kept.len ∙ c.requires.page
