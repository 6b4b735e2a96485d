-- The words that are kept, by whether a number is a process's, and by the answers that keep them all; and what an answer makes of the book.
use Prim.Native.Nat.{ℕ, ◌+◌, ◌≤◌}
use mathlib.Core.Path.{◌≡◌, refl, sym, ap, ap₂, ◌∙◌, subst}
use mathlib.Core.Logic.{◌≢◌}
use mathlib.Core.Bool.{false, ◌||◌}
use mathlib.Core.List.{List, [], ◌∷◌}
use borrow.Author.Tests.{le-ltb}
use Rattle.snapshot.specs.Requests.{number_in}
use Rattle.snapshot.specs.Refusals.{outside}
use Rattle.snapshot.specs.declared.Answer.{Answer}
use Rattle.snapshot.specs.declared.Answer.TheVariants.{Refused, Opened, Called, Read, Page, Written}
use Rattle.snapshot.specs.declared.Request.{Request}
use Rattle.snapshot.specs.declared.Request.TheVariants.{Open, Update, Scan, Turn}
use Rattle.places.specs.Places.{eight, put_in}
use Rattle.places.specs.Answers.{word_of, words_called, words_after, count_after, book_after}

pub a_process : (d : ℕ) → 1 ≤ d → d ≤ 8 → outside 1 8 d ≡ false
a_process d l m = ap₂ ◌||◌ (le-ltb d 1 l) (le-ltb 8 d m)

pub kept_all : (ws : List ℕ) (r : Request) (a : Answer) → a ≢ Called → ws ≡ words_after ws r a
unfolding words_after
kept_all ws r (Refused k) q = refl
kept_all ws r Opened q = refl
kept_all ws r Called q = absurd (q refl)
kept_all ws r Read q = refl
kept_all ws r (Page lender at turns) q = refl
kept_all ws r (Written turns) q = refl

pub kept_called : (ws : List ℕ) (r : Request) → ((d w : ℕ) → r ≢ Update d w) → ws ≡ words_called ws r
kept_called ws (Open k) q = refl
kept_called ws (Update d w) q = absurd (q d w refl)
kept_called ws (Scan d) q = refl
kept_called ws (Turn d) q = refl

-- ---- what an answer makes of the book

module _ (words : List ℕ) (count : ℕ) (r : Request) (e : ℕ) (shown : List ℕ) (book : List (List ℕ)) where
  abbrev Makes : ℕ → List (List ℕ) → Answer → Type 0
  Makes k after a = (k ≡ count_after count a) × (after ≡ book_after words count r e shown book a)

  -- a place is put in it
  module _ (a : Answer) (d : ℕ) (process : d ≡ number_in r) (p : List ℕ) (after : List (List ℕ)) (put : after ≡ put_in p count book) where
    pub page_put : (lender at turns : ℕ) → a ≡ Page lender at turns → p ≡ at ∷ 3 ∷ d ∷ eight shown → Makes (count + 1) after a
    unfolding count_after book_after
    page_put lender at turns q is =
        subst (Makes (count + 1) after) (sym q)
        (refl, put ∙ ap (λ x. put_in x count book) (is ∙ ap (λ j. at ∷ 3 ∷ j ∷ eight shown) process))

    pub entry_put : (turns : ℕ) → a ≡ Written turns → p ≡ e ∷ 2 ∷ d ∷ eight (word_of words d ∷ []) → Makes (count + 1) after a
    unfolding count_after book_after
    entry_put turns q is =
        subst (Makes (count + 1) after) (sym q)
        (refl, put ∙ ap (λ x. put_in x count book) (is ∙ ap (λ j. e ∷ 2 ∷ j ∷ eight (word_of words j ∷ [])) process))

  -- or nothing is, by any other answer
  pub nothing_put : (a : Answer) → ((lender at turns : ℕ) → a ≢ Page lender at turns) → ((turns : ℕ) → a ≢ Written turns) → Makes count book a
  unfolding count_after book_after
  nothing_put (Refused k) p w = (refl, refl)
  nothing_put Opened p w = (refl, refl)
  nothing_put Called p w = (refl, refl)
  nothing_put Read p w = (refl, refl)
  nothing_put (Page lender at turns) p w = absurd (p lender at turns refl)
  nothing_put (Written turns) p w = absurd (w turns refl)
