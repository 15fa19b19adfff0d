use Rattle.tree_cursor.proofs.ReferLemmas.{frames_refer, given_frames_refer, stored_cursors_refer, references_stay}
use Rattle.tree_cursor.proofs.laws.cursors_are_referred.Goals as goal

pub returns : goal.returns
returns c = record {
  refers = frames_refer;
  given = given_frames_refer;
  stored = stored_cursors_refer;
  stays = references_stay;
}
