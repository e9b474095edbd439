-- A run of a call continues a walk that is at the call's first position, for either end.
use Rattle.oneshot_bridge.proofs.Names.{◌≡◌, Bool, true, ◌&&◌, ◌||◌, List, [], ◌∷◌, ◌++◌, Option, Some, None, refl, sym, ap, ◌∙◌, subst, append_assoc, append-nil, and_parts, cons_option, list_all}
use Rattle.oneshot_bridge.proofs.Names.{option_map, Reply, Seen, Step, Op, Event, words, Noted, op_of, Run, last, more, Outcome, Goes, Answers, Rows, row_for, each_passes, Unanswered, left_by}
use Rattle.oneshot_bridge.proofs.Names.{Answered, answers_with, Stand, Walker, may_see, stands_after, Quiet, quiet, Operates, operates, Walk, quietly, by_one}
use Rattle.std.specs.Prelude.{is_some}
use Rattle.oneshot_machine.specs.declared.machine.Step.TheVariants.{Word}
use Rattle.oneshot_bridge.proofs.Among.{row_among}

op_is : (op : Op) (step : Step) → op_of step ≡ Some op → step ≡ Word op
op_is op (Word other) e = ap Word (cc e)
op_is op _ e = absurd (cc e)

-- The test of an end's table, at the positions of the calls in question: a step that is no operation
-- sees what a walk may see, a row leads to such a position, and a reply leaves the end so.
pub record Walks {P S : Type 0} (w : Walker P S) (among : P → Bool) (Left : S → Type 0) : Type 0 where
  pub sees : (p : P) (seen : Seen) (row : Outcome P) → among p ≡ true → op_of (w.step p) ≡ None
      → w.row p seen ≡ Some row → may_see (w.step p) seen ≡ true
  pub goes : (p : P) (seen : Seen) (next : P) → among p ≡ true → w.row p seen ≡ Some (Goes next) → among next ≡ true
  pub answers : (p : P) (seen : Seen) (reply : Reply) → among p ≡ true → w.row p seen ≡ Some (Answers reply)
      → Left (w.goes (w.step p) (Answers reply))
  pub stands : (p next : P) (left : Unanswered) (replies : List Answered)
      → w.position (w.goes (w.step p) (Goes next), left, replies) ≡ Some next

-- it follows from a test of each row
module _ {P S : Type 0} (w : Walker P S) (among : P → Bool) (left : S → Bool) where
  abbrev leads_on : P → Outcome P → Bool
  leads_on p (Goes next) = among next
  leads_on p (Answers reply) = left (w.goes (w.step p) (Answers reply))

  abbrev pub row_fits : P → Seen × Outcome P → Bool
  row_fits p row = (is_some (op_of (w.step p)) || may_see (w.step p) row.0) && leads_on p row.1

  abbrev pub RowsFit : (P → Rows P) → Type 0
  RowsFit rows = (p : P) → among p ≡ true → list_all (row_fits p) (rows p) ≡ true

  or_sees : (o : Option Op) (sees : Bool) → (is_some o || sees) ≡ true → o ≡ None → sees ≡ true
  or_sees None sees so none = so
  or_sees (Some op) sees so none = absurd (cc none)

  pub fit_walks : (rows : P → Rows P) → ((p : P) (seen : Seen) → w.row p seen ≡ row_for seen (rows p)) → RowsFit rows
      → ((p next : P) (left : Unanswered) (replies : List Answered)
      → w.position (w.goes (w.step p) (Goes next), left, replies) ≡ Some next)
      → Walks w among (λ s. left s ≡ true)
  fit_walks rows is fit stands =
      record {
        sees = λ p seen row its quiet found.
            or_sees (op_of (w.step p)) (may_see (w.step p) seen) (fits p seen row its found).0 quiet;
        goes = λ p seen next its found. (fits p seen (Goes next) its found).1;
        answers = λ p seen reply its found. (fits p seen (Answers reply) its found).1;
        stands = stands;
      }
    where
      fits : (p : P) (seen : Seen) (row : Outcome P) → among p ≡ true → w.row p seen ≡ Some row
          → ((is_some (op_of (w.step p)) || may_see (w.step p) seen) ≡ true) × (leads_on p row ≡ true)
      fits p seen row its found =
          and_parts (is_some (op_of (w.step p)) || may_see (w.step p) seen) (leads_on p row)
          (each_passes (row_fits p) (rows p) (fit p its) (row_among seen (rows p) (sym (is p seen) ∙ found)))

module _ {P S : Type 0} (w : Walker P S) {among : P → Bool} {Left : S → Type 0} (walks : Walks w among Left)
    (from : Stand S) where
  abbrev The_walk : List Noted → Stand S → Type 0
  The_walk = Walk (Quiet w) (Operates w) from

  -- one step
  walks_on : {T W : Type 0} {ys : List Noted} {s : S} {left : Unanswered} {replies : List Answered} (p : P)
      (x : Event T W)
      (row : Outcome P) → among p ≡ true → The_walk ys (s, left, replies) → w.position (s, left, replies) ≡ Some p
      → x.step ≡ w.step p → w.row p x.seen ≡ Some row
      → The_walk (ys ++ words (x ∷ [])) (stands_after w p row left replies)
  walks_on {ys = ys} {left = left} {replies = replies} p x row its walk at step rows =
      by (op_of x.step) refl
    where
      by : (o : Option Op) → op_of x.step ≡ o
          → The_walk (ys ++ cons_option (option_map (λ op. (op, x.seen)) o) []) (stands_after w p row left replies)
      by None is =
          subst (λ ys. The_walk ys (stands_after w p row left replies)) (sym (append-nil ys))
          (quietly walk
          (quiet p x.seen row at (walks.sees p x.seen row its (ap op_of (sym step) ∙ is) rows) rows))
      by (Some op) is =
          by_one (op, x.seen) walk (operates p (op, x.seen) row at (sym step ∙ op_is op x.step is) rows)

  -- the end after the call
  pub record HasAnswered (ys : List Noted) (reply : Reply) (left : Unanswered) (replies : List Answered) : Type 0 where
    pub state : S
    pub so : Left state
    pub walk : The_walk ys (state, left_by w.side (Some reply) left, replies ++ answers_with left (Some reply))

  pub call_walks : {T W : Type 0} {p : P} {reply : Reply} {run : List (Event T W)} → Run w.step w.row p run reply
      → among p ≡ true → (ys : List Noted) (s : S) (left : Unanswered) (replies : List Answered)
      → The_walk ys (s, left, replies) → w.position (s, left, replies) ≡ Some p
      → HasAnswered (ys ++ words run) reply left replies
  call_walks {p = p} (last {r = reply} x step rows) its ys s left replies walk at =
      record {
        state = w.goes (w.step p) (Answers reply);
        so = walks.answers p x.seen reply its rows;
        walk = walks_on p x (Answers reply) its walk at step rows;
      }
  call_walks {T} {W} {p = p} {reply = reply} (more next x xs step rows rest) its ys s left replies walk at =
      let there = w.goes (w.step p) (Goes next) in
      let stood = subst (λ replies. The_walk (ys ++ words (x ∷ [])) (there, left, replies)) (append-nil replies)
      (walks_on p x (Goes next) its walk at step rows) in
      let then : HasAnswered ((ys ++ words (x ∷ [])) ++ words xs) reply left replies =
      call_walks rest (walks.goes p x.seen next its rows) (ys ++ words (x ∷ [])) there left replies stood
      (walks.stands p next left replies) in
      subst (λ ys. HasAnswered ys reply left replies)
      (append_assoc ys (words (x ∷ [])) (words xs) ∙ ap (λ ns. ys ++ ns) (words_more x xs)) then
    where
      words_more : (x : Event T W) (xs : List (Event T W)) → words (x ∷ []) ++ words xs ≡ words (x ∷ xs)
      words_more x xs = by (op_of x.step)
        where
          by : (o : Option Op) → cons_option (option_map (λ op. (op, x.seen)) o) [] ++ words xs
              ≡ cons_option (option_map (λ op. (op, x.seen)) o) (words xs)
          by None = refl
          by (Some op) = refl
