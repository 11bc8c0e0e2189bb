-- Lines of what a walk gives, one after another, each by its number.
use Rattle.programs.proofs.chunkplan.Common.{◌≡◌, ◌∙◌, ℕ, suc, ◌+◌, List, [], ◌∷◌, ◌++◌, Some, length, length-append, append_assoc, append-nil, ap}
use Rattle.programs.proofs.chunkplan.Common.{refl, sym, arith, lines_from, Output, RunFault, Memory}
use Rattle.zarrs_chunk_plan.specs.Counted.{counted}
use Rattle.programs.specs.chunkplan.seen.Steps.{HasSent}
use Rattle.programs.proofs.chunkplan.Behind.{Begins, Behind, Stops, memory_after, sent_behind, stops_behind}

pub counted_first : counted 0 ≡ Some 0
unfolding counted
counted_first = refl

-- the lines of all of these, which are counted from a first number on
abbrev pub IsTextOf : {Y : Type 0} → (line : ℕ → Y → List ℕ) (begin : ℕ) (AreAll : List Y → Type 0) → List ℕ → Type 0
IsTextOf {Y} line begin AreAll text = (all : List Y) × AreAll all × (text ≡ lines_from line begin all)

module _ {Y : Type 0} (line : ℕ → Y → List ℕ) (begin : ℕ) where
  lines_both : (first : ℕ) (ys others : List Y)
      → lines_from line first (ys ++ others) ≡ lines_from line first ys ++ lines_from line (first + length ys) others
  lines_both first [] others = ap (λ n. lines_from line n others) (let same : first ≡ first + 0 = omega arith in same)
  lines_both first (y ∷ ys) others =
      let same : suc first + length ys ≡ first + suc (length ys) = omega arith in
      ap (λ text. line first y ++ text) (lines_both (suc first) ys others ∙ ap (λ n. lines_from line (suc first) ys ++ lines_from line n others) same)
      ∙ sym (append_assoc (line first y) (lines_from line (suc first) ys) (lines_from line (first + suc (length ys)) others))

  -- the lines of those that came, where the next one has the number n
  abbrev pub Came : (HaveCome : List Y → Type 0) → ℕ → List ℕ → Type 0
  Came HaveCome n text = (came : List Y) × HaveCome came × (begin + length came ≡ n) × (text ≡ lines_from line begin came)

  -- one that is of the walk, and its line
  abbrev pub IsLineOf : (IsOne : Y → Type 0) → ℕ → List ℕ → Type 0
  IsLineOf IsOne n text = (y : Y) × IsOne y × (text ≡ line n y)

  last_line : (n : ℕ) (y : Y) → lines_from line n (y ∷ []) ≡ line n y
  last_line n y = append-nil (line n y)

  pub one_more_came : (HaveCome MoreCome : List Y → Type 0) (IsOne : Y → Type 0) (n : ℕ)
      → ((came : List Y) (y : Y) → HaveCome came → IsOne y → MoreCome (came ++ y ∷ [])) → (text : List ℕ)
      → Behind (Came HaveCome n) (IsLineOf IsOne n) text → Came MoreCome (suc n) text
  one_more_came HaveCome MoreCome IsOne n more text (one, other, (came, have, many, lines), (y, is, last), both) = (
    came ++ y ∷ [],
    more came y have is,
    (let longer = length-append came (y ∷ []) in omega arith),
    both
        ∙ rw (lines, last, ← many)
        (sym (lines_both begin came (y ∷ []) ∙ ap (λ text. lines_from line begin came ++ text) (last_line (begin + length came) y))),
  )

  -- with what would still come, the text goes on
  goes_on : (HaveCome AreAll : List Y → Type 0) (n : ℕ) → ((came : List Y) → HaveCome came → (others : List Y) × AreAll (came ++ others))
      → Begins (Came HaveCome n) (IsTextOf line begin AreAll)
  goes_on HaveCome AreAll n ahead text (came, have, many, lines) =
      let (others, all) = ahead came have in
      (lines_from line (begin + length came) others, (came ++ others, all, rw lines (sym (lines_both begin came others))))

  -- ---- on the way

  module _ (HaveCome MoreCome AreAll : List Y → Type 0) (IsOne : Y → Type 0) (n : ℕ) (before between after : Output)
      (sent : HasSent (Came HaveCome n) before between) (more : (came : List Y) (y : Y) → HaveCome came → IsOne y → MoreCome (came ++ y ∷ [])) where
    -- the line of one more was sent
    pub way_goes_on : HasSent (IsLineOf IsOne n) between after → HasSent (Came MoreCome (suc n)) before after
    way_goes_on step =
        let (text, both, sends, same) = sent_behind (Came HaveCome n) (IsLineOf IsOne n) (λ _. ⊥) before between after sent step in
        (text, one_more_came HaveCome MoreCome IsOne n more text both, sends, same)

    -- or something stopped it
    pub way_stops : ((came : List Y) → HaveCome came → (others : List Y) × AreAll (came ++ others))
        → ((came : List Y) → MoreCome came → (others : List Y) × AreAll (came ++ others))
        → (fault : RunFault) → Stops (IsLineOf IsOne n) fault between after → Stops (IsTextOf line begin AreAll) fault before after
    way_stops here there fault step =
        stops_behind (Came HaveCome n) (IsLineOf IsOne n) (IsTextOf line begin AreAll) before between after sent (goes_on HaveCome AreAll n here)
        (λ text both. goes_on MoreCome AreAll (suc n) there text (one_more_came HaveCome MoreCome IsOne n more text both)) fault step

  pub way_memory : (HaveCome AreAll : List Y → Type 0) (n : ℕ) (before now : Output) → HasSent (Came HaveCome n) before now
      → ((came : List Y) → HaveCome came → (others : List Y) × AreAll (came ++ others)) → Stops (IsTextOf line begin AreAll) Memory before now
  way_memory HaveCome AreAll n before now sent ahead =
      memory_after (Came HaveCome n) (IsTextOf line begin AreAll) (goes_on HaveCome AreAll n ahead) before now sent

  -- all that was to come was sent
  pub way_ends : (HaveCome AreAll : List Y → Type 0) (n : ℕ) (before now : Output) → HasSent (Came HaveCome n) before now
      → ((came : List Y) → HaveCome came → AreAll came) → HasSent (IsTextOf line begin AreAll) before now
  way_ends HaveCome AreAll n before now (text, (came, have, many, lines), sends, same) all = (text, (came, all came have, lines), sends, same)
