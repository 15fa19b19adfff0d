-- A form of one thing is a form of another that shows the same.
use Rattle.std.proofs.Common.{◌≡◌, ◌+◌, Ok, Err, ◌++◌, refl, sym, ap, ◌∙◌, subst}
use Rattle.line_forms.specs.LineForms.{Lines, Reading, StopsAt, IsLineForm, read_as}
use Rattle.line_forms.proofs.FormLemmas.{ok_is, err_is}

-- a form of one thing is a form of another that shows the same
module _ {A B : Type 0} (Fits : A → Type 0) (Shown : B → Type 0) (lines : A → Lines) (shown_lines : B → Lines) (read : Lines → Reading A) (see : A → B) (back : B → A)
    (shows : (x : A) → Fits x → Shown (see x)) (came : (y : B) → Shown y → Fits (back y)) (round : (y : B) → Shown y → see (back y) ≡ y)
    (same_lines : (x : A) → Fits x → shown_lines (see x) ≡ lines x) (form : IsLineForm Fits lines read) where
  back_lines : (y : B) → Shown y → lines (back y) ≡ shown_lines y
  back_lines y h = sym (same_lines (back y) (came y h)) ∙ ap shown_lines (round y h)

  seen_ok : (text rest : Lines) (y : B) → read_as see (read text) ≡ Ok (y, rest) → Shown y × (text ≡ shown_lines y ++ rest)
  seen_ok text rest y e = go (read text) refl e
    where
      go : (r : Reading A) → read text ≡ r → read_as see r ≡ Ok (y, rest) → Shown y × (text ≡ shown_lines y ++ rest)
      go (Err r) is f = absurd cc
      go (Ok x) is f =
          let fit = form.fits text x.1 x.0 is in
          let told : text ≡ shown_lines (see x.0) ++ x.1 = form.written text x.1 x.0 is ∙ ap (λ (t : Lines). t ++ x.1) (sym (same_lines x.0 fit)) in
          subst (λ (z : B × Lines). Shown z.0 × (text ≡ shown_lines z.0 ++ z.1)) (ok_is (see x.0, x.1) (y, rest) f) (shows x.0 fit, told)

  seen_stops : (text rest : Lines) → read_as see (read text) ≡ Err rest → StopsAt Shown shown_lines text rest
  seen_stops text rest e = go (read text) refl e
    where
      go : (r : Reading A) → read text ≡ r → read_as see r ≡ Err rest → StopsAt Shown shown_lines text rest
      go (Ok x) is f = absurd cc
      go (Err r) is f =
          let st = form.stops text r is in
          let same : r ≡ rest = err_is r rest f in
          record {
            front = st.front;
            split = st.split ∙ ap (λ (t : Lines). st.front ++ t) same;
            one = see st.one;
            fits = shows st.one st.fits;
            more = st.more;
            begun = same_lines st.one st.fits ∙ st.begun;
            none = λ y line behind later h at begins. st.none (back y) line behind later (came y h) (same ∙ at) (back_lines y h ∙ begins);
          }

  pub seen_form : IsLineForm Shown shown_lines (λ (text : Lines). read_as see (read text))
  seen_form = record {
    some = see form.some;
    some_fits = shows form.some form.some_fits;
    again = λ y rest h. ap (read_as see) (ap read (ap (λ (t : Lines). t ++ rest) (sym (back_lines y h))) ∙ form.again (back y) rest (came y h)) ∙ ap (λ (z : B). Ok (z, rest)) (round y h);
    fits = λ text rest y e. (seen_ok text rest y e).0;
    written = λ text rest y e. (seen_ok text rest y e).1;
    stops = seen_stops;
  }
