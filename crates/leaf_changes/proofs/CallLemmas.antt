-- What a call may answer while it holds the leaf of its key.
use Rattle.std.proofs.Common.{◌≡◌, ◌≢◌, ℕ, true, List, sym, ap, ◌∙◌, refl, Option, Some, None, cond, is_none, is_some}
use Rattle.key_tuple.specs.Order.{FieldList}
use Rattle.latch_space.specs.Passes.{view}
use Rattle.map_history.specs.declared.reply.Reply.{Reply}
use Rattle.map_history.specs.declared.reply.Reply.TheVariants as words
use Rattle.map_history.specs.Map.{Pair, Map, MapChange, Put, Set, Del, key_of, value_at, is_allowed}
use Rattle.map_history.specs.Operation.{Ask, Get, Make}
use Rattle.map_history.specs.Reply.{Done, Absent, Duplicate, value_reply, reply_of}
use Rattle.map_history.specs.LegalReport.{may_reply}
use Rattle.map_history.specs.Told.{Says}
use Rattle.tree_law.specs.Pages.{row_pairs}
use Rattle.index_law.specs.Answers.{Gives, LogFull}
use Rattle.index_law.specs.Meanings.{reply_word, gives}
use Rattle.forest_law.specs.declared.objects.Frame.{Frame}
use Rattle.forest_world.specs.Held.{TreePass}
use Rattle.engine_law.proofs.WordLemmas.{says_word}
use Rattle.leaf_changes.specs.Holds.{HoldsLeaf}
use Rattle.engine_law.specs.Says.{SeesFull}
use Rattle.leaf_changes.specs.Says.{TellsMost, AsksOf, CanSay}
use Rattle.engine_law.specs.Tells.{HasKeyOf}

says_no_number : (m : Map) (ask : Ask) (reply : Reply) (row : Pair) (most : ℕ)
    → Says m ask reply row → TellsMost reply most
says_no_number m ask words.Found row most says = tt
says_no_number m ask words.Absent row most says = tt
says_no_number m ask words.Ok row most says = tt
says_no_number m ask words.Duplicate row most says = tt
says_no_number m ask words.SpaceFull row most says = tt
says_no_number m ask (words.LogFull n) row most says = absurd cc

module _ (p : TreePass) (b i : ℕ) (key : FieldList) (f : Frame)
    (holds : HoldsLeaf p b i key f f) where
  abbrev rows : Map
  rows = row_pairs holds.leaf.page.is.page.rows

  -- what the held rows reply may be said, where it changes nothing
  pub can_reply : (ask : Ask) (reply : Reply) (row : Pair) → AsksOf key ask
      → HasKeyOf ask reply row → Says rows ask reply row → reply_of rows ask ≢ Done
      → may_reply ask (reply_of rows ask) ≡ true → CanSay p i key ask reply row
  can_reply ask reply row about has says changes_not form = record {
    block = b;
    frame = f;
    holds = holds;
    about = about;
    word = Gives (reply_of rows ask);
    is_word = says_word rows ask reply row says;
    may = record { form = form; is = refl; changes_nothing = changes_not };
    most = says_no_number rows ask reply row (view p).terms.max_changes says;
    row_key = has;
  }

  -- a look-up may be answered
  pub can_get : (reply : Reply) (row : Pair) → HasKeyOf (Get key) reply row
      → Says rows (Get key) reply row → CanSay p i key (Get key) reply row
  can_get reply row has says =
      can_reply (Get key) reply row refl has says (plain (value_at key rows))
      (form (value_at key rows))
    where
      plain : (o : Option (List ℕ)) → value_reply o ≢ Done
      plain None e = absurd cc
      plain (Some v) e = absurd cc

      form : (o : Option (List ℕ)) → may_reply (Get key) (value_reply o) ≡ true
      form None = refl
      form (Some v) = refl

  -- an allowed change may be refused at a full list
  pub can_refuse : (change : MapChange) (n : ℕ) (row : Pair) → key_of change ≡ key
      → is_allowed rows change ≡ true → SeesFull (view p) i → n ≡ (view p).terms.max_changes
      → CanSay p i key (Make change) (words.LogFull n) row
  can_refuse change n row about allowed full most = record {
    block = b;
    frame = f;
    holds = holds;
    about = about;
    word = LogFull;
    is_word = refl;
    may = (full, record { change = change; asked = refl; allowed = allowed });
    most = most;
    row_key = tt;
  }

  -- a put of a key that is there is a duplicate
  pub can_duplicate : (value found : List ℕ) (row : Pair) → value_at key rows ≡ Some found
      → CanSay p i key (Make (Put key value)) words.Duplicate row
  can_duplicate value found row there =
      let is : reply_of rows (Make (Put key value)) ≡ Duplicate =
      ap (λ o. cond (is_none o) Done Duplicate) there in
      can_reply (Make (Put key value)) words.Duplicate row refl tt (ap Some (sym is))
      (λ e. clash (sym is ∙ e)) (ap (may_reply (Make (Put key value))) is)
    where
      clash : Duplicate ≡ Done → ⊥
      clash e = cc

  -- a change that the key's row is wanted for is absent where there is none
  can_lack : (change : MapChange) (row : Pair) → key_of change ≡ key
      → reply_of rows (Make change) ≡ Absent → may_reply (Make change) Absent ≡ true
      → CanSay p i key (Make change) words.Absent row
  can_lack change row about is form =
      can_reply (Make change) words.Absent row about tt (ap Some (sym is))
      (λ e. clash (sym is ∙ e)) (ap (may_reply (Make change)) is ∙ form)
    where
      clash : Absent ≡ Done → ⊥
      clash e = cc

  -- so it is with a del, and with a set
  pub can_miss : (row : Pair) → value_at key rows ≡ None
      → CanSay p i key (Make (Del key)) words.Absent row
  can_miss row lacks =
      can_lack (Del key) row refl (ap (λ o. cond (is_some o) Done Absent) lacks) refl

  pub can_miss_set : (value : List ℕ) (row : Pair) → value_at key rows ≡ None
      → CanSay p i key (Make (Set key value)) words.Absent row
  can_miss_set value row lacks =
      can_lack (Set key value) row refl (ap (λ o. cond (is_some o) Done Absent) lacks) refl
