-- The laws of the hash.
use Rattle.std.proofs.Common.{◌≡◌, ◌==◌, ℕ, if◌then◌else◌, Option, Some, None, [], refl, sym, ap, ◌∙◌}
use Rattle.std.specs.Prelude.{is_some}
use Rattle.key_tuple.specs.declared.mode.Params.{Params}
use Rattle.index_page.specs.Page.{PageRows}
use Rattle.hash_partition.specs.Part.{Part}
use Rattle.hash_law.specs.Blocks.{part_for, entries_owed}
use Rattle.hash_law.specs.Entries.{entries}
use Rattle.hash_law.specs.BlockLaws.{OthersAreOwedNothing}
use Rattle.hash_law.proofs.BlockLemmas.{nodes_lead}
use Rattle.index_law.specs.Shape.{Shape}
use Rattle.forest_law.specs.declared.objects.Frame.{Frame}
use Rattle.forest_law.specs.Numbers.{frames_of}
use Rattle.forest_law.specs.Hashed.{folds_for, hash_block, part_of, part_at, hash_block_of, hash_block_at, due_for}
use Rattle.forest_law.specs.HashSteps.{AsksSame}
use Rattle.forest_law.specs.HashLaws.{IsNotIn, HashIsKept, BlocksAskTheSame, HashesAreExact, NodesLeadToFrames}
use Rattle.forest_law.proofs.HashLemmas.{rests_keep, keeps_up, unheld_asks}

pub hash_is_kept : HashIsKept
hash_is_kept = record { rests = rests_keep; keeps_up = keeps_up; unheld = unheld_asks }

-- what a block is owed hangs on the rows of its page alone
rows_owed : (sh : Shape) (k b : ℕ) (p q : PageRows) → q.rows ≡ p.rows → (h : Option ℕ)
    (built : Option Params)
    → (if is_some h then entries_owed (folds_for sh) sh.parts k b (Some q) h built else [])
    ≡ (if is_some h then entries_owed (folds_for sh) sh.parts k b (Some p) h built else [])
rows_owed sh k b p q same None built = refl
rows_owed sh k b p q same (Some index) None = refl
rows_owed sh k b p q same (Some index) (Some params) =
    ap (λ rows. if part_for sh.parts index == k
    then entries params.left (folds_for sh index params) b rows else []) same

module _ (sh : Shape) (k b : ℕ) where
  -- what a block is owed, with these for its page and how it is hashed
  unhashed_due : (p : Part) (f : Frame) → f.hashed ≡ None → due_for sh k b p f ≡ []
  unhashed_due p f e = ap (λ h. if is_some h
      then entries_owed (folds_for sh) sh.parts k b f.page h f.figures.built else []) e

  -- frames that aren't hashed ask for the same
  pub unhashed_asks : (x y : Frame) → x.hashed ≡ None → y.hashed ≡ None → AsksSame sh k b x y
  unhashed_asks x y was is p q = unhashed_due q y is ∙ sym (unhashed_due p x was)

  -- and so do frames with the same page that are hashed alike
  pub same_asks : (x y : Frame) → y.page ≡ x.page → y.hashed ≡ x.hashed
      → y.figures.built ≡ x.figures.built → AsksSame sh k b x y
  same_asks x y page hashed built p q i = if is_some (hashed i)
      then entries_owed (folds_for sh) sh.parts k b (page i) (hashed i) (built i) else []

  -- or with the same rows
  rows_ask : (x y : Frame) (p q : PageRows) → x.page ≡ Some p → y.page ≡ Some q
      → q.rows ≡ p.rows → y.hashed ≡ x.hashed → y.figures.built ≡ x.figures.built
      → AsksSame sh k b x y
  rows_ask x y p q was is same hashed built r s =
      ap (λ o. if is_some y.hashed
      then entries_owed (folds_for sh) sh.parts k b o y.hashed y.figures.built else []) is
      ∙ ((λ i. if is_some (hashed i)
      then entries_owed (folds_for sh) sh.parts k b (Some q) (hashed i) (built i) else [])
      ∙ (rows_owed sh k b p q same x.hashed x.figures.built
      ∙ sym (ap (λ o. if is_some x.hashed
      then entries_owed (folds_for sh) sh.parts k b o x.hashed x.figures.built else []) was)))

  -- a frame that is hashed for no index of partition k asks it for nothing
  other_due : OthersAreOwedNothing → (p : Part) (f : Frame) → IsNotIn sh k f
      → due_for sh k b p f ≡ []
  other_due owed p f isnt = pick f.hashed refl
    where
      pick : (h : Option ℕ) → f.hashed ≡ h → due_for sh k b p f ≡ []
      pick None e = owed.unhashed (folds_for sh) sh.parts k b p (hash_block f) e
      pick (Some index) e =
          owed.elsewhere (folds_for sh) sh.parts k b p (hash_block f) index e (isnt index e)

  pub other_asks : OthersAreOwedNothing → (x y : Frame) → IsNotIn sh k x → IsNotIn sh k y
      → AsksSame sh k b x y
  other_asks owed x y was is p q = other_due owed q y is ∙ sym (other_due owed p x was)

pub blocks_ask : OthersAreOwedNothing → BlocksAskTheSame
blocks_ask owed = record {
  unhashed = unhashed_asks;
  alike = same_asks;
  same_rows = rows_ask;
  elsewhere = λ sh k b. other_asks sh k b owed;
}

pub hashes_are_exact : HashesAreExact
hashes_are_exact = record {
  tidy = λ w law b f at. law.objects.hashed.tidy b (hash_block f) (ap hash_block_of at);
  sound = λ w law k p at. law.objects.hashed.sound k p (ap part_of at);
  exact = λ w law k b p f is_part is_frame. law.objects.hashed.exact k b p (hash_block f)
      (ap part_of is_part) (ap hash_block_of is_frame);
}

pub nodes_lead_to_frames : NodesLeadToFrames
nodes_lead_to_frames w law k p n at has =
    let below = (law.objects.hashed.sound k p (ap part_of at)).known n has in
    let f = law.objects.kinds.frames n.block below in record {
      below = below;
      frame = f.0;
      at = f.1;
      row = nodes_lead (folds_for w.shape) w.shape.parts w.shape.nodes (frames_of w.shape)
          (part_at w.shape w.objects) (hash_block_at w.shape w.objects) law.objects.hashed k p
          (hash_block f.0) n (ap part_of at) (ap hash_block_of f.1) has;
    }
