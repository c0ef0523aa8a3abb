-- Meaning. The word of each refusal number.
use Rattle.std.specs.Prelude.{ℕ, List, [], ◌∷◌, codes, slice_index_or}

-- the words of the refusals 1 to 27, in order
abbrev pub words : List (List ℕ)
words =
    codes "SHORT" ∷ codes "VERSION" ∷ codes "HEAD" ∷ codes "COUNT" ∷ codes "LINK" ∷ codes "ROUTE" ∷ codes "CHAIN"
    ∷ codes "ORDER" ∷ codes "NAME" ∷ codes "CORE" ∷ codes "TIMES" ∷ codes "FULL" ∷ codes "MEETS" ∷ codes "NAME"
    ∷ codes "ENDS" ∷ codes "TIMES" ∷ codes "NOROUTE" ∷ codes "FULL" ∷ codes "LATE" ∷ codes "MEETS" ∷ codes "UNKNOWN"
    ∷ codes "INUSE" ∷ codes "NOFIT" ∷ codes "RECORD" ∷ codes "EXTRA" ∷ codes "PLACE" ∷ codes "BUFFER" ∷ []

-- the word of a refusal's number; a number below 1 or above 27 has no bytes
abbrev pub word_of : ℕ → List ℕ
word_of number = slice_index_or ([] ∷ words) number []
