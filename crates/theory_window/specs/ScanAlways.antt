-- After an opening and any list of calls the buffer holds the last values that entered, and the next call is answered by a scan of them.
use Rattle.std.specs.Prelude.{ℕ, ◌+◌, ◌≤◌, ◌≡◌, refl, Bool, true, false, ◌&&◌, not, cond, List, [], ◌∷◌, ◌++◌, length, drop, T, leb, ℤ}
use Rattle.std.proofs.Common.{arith, sym, ap, ◌∙◌, leb-true, length-append, length-drop}
use Rattle.meaning.specs.Value.{in_range}
use Rattle.meaning.specs.Calls.{more, value, refused, table_refused}
use Rattle.meaning_window.specs.Window.{last_of, turned_back, scan_of, form_of, form_length, values_in, size_fits, well_kept, opens_window, brings_value, brings_refusal, window_limit}
use Rattle.meaning_window.specs.WindowStatements.{WindowCall, opening, later, calls_window, after_calls, Entered, entered, entering, entered_by, outside, scanned, ScanAlways, KeptAlways}
use Rattle.theory_base.specs.Members.{T→true, true→T}
use Rattle.theory_window.specs.Lists.{and_right}
use Rattle.theory_window.specs.Kept.{Valid, values_of_lem, form_long, form_kept}
use Rattle.theory_window.specs.Cases.{opens_not, value_not, state_met}
use Rattle.theory_window.specs.Reached.{turns, left, opened, fresh, brings_one}

-- the buffer holds the last of the values that entered
pub record Holds (long : ℕ) (e : Entered) (b : List ℤ) : Type 0 where
  pub rest : List ℤ
  pub valid : Valid e.size (turns e.size (length e.values)) (last_of e.size e.values)
  pub is : b ≡ (left e.size rest e.values).buffer
  pub lasts : length b ≡ long

form_length_lem : (n k : ℕ) (w : List ℤ) → Valid n k w → (rest : List ℤ) → length (form_of n k w ++ rest) ≡ form_length n + length rest
form_length_lem n k w valid rest = omega (arith, length-append (form_of n k w) rest, form_long n k w valid)

module _ (long : ℕ) where
  opened_holds : (n : ℕ) (b : List ℤ) → length b ≡ long → size_fits n (length b) ≡ true → Holds long (entered n []) (opens_window n b).buffer
  opened_holds n b l f =
      let rest = drop (form_length n) b in
      let valid : Valid n 0 (last_of n []) = fresh n b f in
      let is : (opens_window n b).buffer ≡ (left n (drop (form_length n) b) []).buffer = ap (λ o. o.buffer) (opened n b f) in
      let m : form_length n ≤ length b = leb-true (form_length n) (length b) (and_right (leb n window_limit) (leb (form_length n) (length b)) (and_right (leb 1 n) (leb n window_limit && leb (form_length n) (length b)) f)) in
      record { rest = rest; valid = valid; is = is; lasts = ap length is ∙ omega (arith, form_length_lem n 0 (last_of n []) valid rest, length-drop (form_length n) b) }

  module _ (e : Entered) (b : List ℤ) (h : Holds long e b) where
    -- what a call answers and leaves
    abbrev pub Stepped : WindowCall → Type 0
    Stepped c = ((calls_window c b).answer ≡ cond (outside long c) turned_back (scanned (entering long e c))) × Holds long (entering long e c) (calls_window c b).buffer

    kept : well_kept b ≡ true
    kept = ap well_kept h.is ∙ form_kept e.size (turns e.size (length e.values)) (last_of e.size e.values) h.valid h.rest

    same : (c : List ℤ) → c ≡ b → Holds long e c
    same c q = record { rest = h.rest; valid = h.valid; is = q ∙ h.is; lasts = ap length q ∙ h.lasts }

    standing : brings_refusal b ≡ scanned e
    standing = state_met b kept ∙ ap scan_of (ap values_in h.is ∙ values_of_lem e.size (turns e.size (length e.values)) (last_of e.size e.values) h.valid h.rest)

    reopened : (n : ℕ) → Stepped (opening n)
    reopened n = by (size_fits n long) refl
      where
        by : (t : Bool) → size_fits n long ≡ t → ((opens_window n b).answer ≡ cond (not t) turned_back (scanned (cond t (entered n []) e))) × Holds long (cond t (entered n []) e) (opens_window n b).buffer
        by true q =
            let f : size_fits n (length b) ≡ true = ap (size_fits n) h.lasts ∙ q in
            (ap (λ o. o.answer) (opened n b f), opened_holds n b h.lasts f)
        by false q =
            let o = opens_not n b (ap (size_fits n) h.lasts ∙ q) in
            (ap (λ o. o.answer) o, same (opens_window n b).buffer (ap (λ o. o.buffer) o))

    brought : (v : ℤ) (moves : ℕ) → Stepped (later (value v moves))
    brought v moves = by (in_range v) refl
      where
        more_values : List ℤ
        more_values = e.values ++ (v ∷ [])

        by : (t : Bool) → in_range v ≡ t
            → ((brings_value v b).answer ≡ cond (not t) turned_back (scanned (cond t (entered e.size more_values) e))) × Holds long (cond t (entered e.size more_values) e) (brings_value v b).buffer
        by true q =
            let one = brings_one e.size h.rest e.values v h.valid q in
            let o : brings_value v b ≡ left e.size h.rest more_values = ap (brings_value v) h.is ∙ one.0 in
            let l : length (brings_value v b).buffer ≡ long =
            ap (λ x. length x.buffer) o
            ∙ (form_length_lem e.size (turns e.size (length more_values)) (last_of e.size more_values) one.1 h.rest
            ∙ (sym (form_length_lem e.size (turns e.size (length e.values)) (last_of e.size e.values) h.valid h.rest) ∙ (ap length (sym h.is) ∙ h.lasts))) in
            (ap (λ x. x.answer) o, record { rest = h.rest; valid = one.1; is = ap (λ x. x.buffer) o; lasts = l })
        by false q =
            let o = value_not v b (ap (λ x. x && well_kept b) q) in
            (ap (λ x. x.answer) o, same (brings_value v b).buffer (ap (λ x. x.buffer) o))

    pub stepped : (c : WindowCall) → Stepped c
    stepped (opening n) = reopened n
    stepped (later (more moves)) = (standing, h)
    stepped (later (value v moves)) = brought v moves
    stepped (later (refused number tokens)) = (standing, h)
    stepped (later (table_refused number offset)) = (standing, h)

  holds_after : (cs : List WindowCall) (e : Entered) (b : List ℤ) → Holds long e b → Holds long (entered_by long e cs) (after_calls cs b)
  holds_after [] e b h = h
  holds_after (c ∷ cs) e b h = holds_after cs (entering long e c) (calls_window c b).buffer (stepped e b h c).1

module _ (n : ℕ) (b : List ℤ) (fits : T (size_fits n (length b))) (cs : List WindowCall) where
  after_opening : Holds (length b) (entered_by (length b) (entered n []) cs) (after_calls cs (opens_window n b).buffer)
  after_opening = holds_after (length b) cs (entered n []) (opens_window n b).buffer (opened_holds (length b) n b refl (T→true (size_fits n (length b)) fits))

-- total and largest after any calls
pub scan_always : ScanAlways
scan_always n b f cs c = (stepped (length b) (entered_by (length b) (entered n []) cs) (after_calls cs (opens_window n b).buffer) (after_opening n b f cs) c).0

pub kept_always : KeptAlways
kept_always n b f cs = true→T (well_kept (after_calls cs (opens_window n b).buffer)) (kept (length b) (entered_by (length b) (entered n []) cs) (after_calls cs (opens_window n b).buffer) (after_opening n b f cs))
