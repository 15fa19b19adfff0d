-- The page behind two halves, in hand.
use Rattle.std.proofs.Common.{◌≡◌, ℕ, ◌∷◌, [], sym, subst, Option, Some}
use Rattle.forest_law.specs.declared.objects.Frame.{Frame}
use Rattle.forest_law.specs.Numbers.{frame_id}
use Rattle.forest_world.specs.Held.{TreePass, HasFrame}
use Rattle.tree_restructure.specs.Links.{HasAPage, Relinks}
use Rattle.buffer_pool.specs.Frames.{TakesOut, PutsBack}
use Rattle.buffer_pool.specs.Hands.{HasOut}
use Rattle.tree_smo.specs.Plans.{HasNext, RelinksBehind}
use Rattle.tree_smo.proofs.RemakeLemmas.{remakes_out, remakes_back, remakes_both}

-- there is such a page
pub held_next : (p : TreePass) (o : Option ℕ) (n : ℕ) → o ≡ Some n → HasNext p o
    → (f : Frame) × HasFrame p n f f × HasAPage f
held_next p o n e held = subst (HasNext p) e held

module _ (p q : TreePass) (o : Option ℕ) (n : ℕ) (is : o ≡ Some n) (held : HasNext p o)
    (frame : Frame) (out : TakesOut p n frame q) where
  has_next : (f : Frame) × HasFrame p n f f × HasAPage f
  has_next = held_next p o n is held

  pub out_page : HasAPage frame
  out_page = subst HasAPage (sym (out.out has_next.0 has_next.0 has_next.1).1) has_next.2

  pub out_next : (f : Frame) × HasOut q n f
  out_next = (has_next.0, (out.out has_next.0 has_next.0 has_next.1).0)

  -- its frame is back, with another left neighbour
  pub relinks_behind : (r : TreePass) (right : ℕ) (new : Frame) → Relinks right frame new
      → PutsBack q n new r → RelinksBehind p o right r
  relinks_behind r right new relinks back = subst (λ z. RelinksBehind p z right r) (sym is)
      (λ f has. (let o = out.out f f has in record {
        now = new;
        has = back.has f o.0;
        relinks = subst (λ (x : Frame). Relinks right x new) o.1 relinks;
        remakes = remakes_both p q r (λ shape. frame_id shape n ∷ []) (remakes_out p q n frame out)
            (remakes_back q r n new back);
      }))
