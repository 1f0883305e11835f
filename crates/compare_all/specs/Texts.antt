-- Parts of the line of a row.
use Rattle.std.specs.Prelude.{ℕ, List, ◌++◌, codes}
use Rattle.std.specs.Fmt.{decimal, signed_decimal}
use Rattle.fq_model.specs.Spelling.{policy_word, estimator_word}
use Rattle.program_model.specs.declared.compare.CompareRow.{CompareRow}

-- all but the lags
abbrev pub end_text : CompareRow → List ℕ
end_text row =
    codes "policy " ++ policy_word row.policy ++ codes " estimate " ++ estimator_word row.estimate
    ++ codes " end " ++ decimal row.end ++ codes " entries " ++ decimal row.entries

-- the lags, and the end of the line
abbrev pub lag_text : CompareRow → List ℕ
lag_text row = codes " lag " ++ signed_decimal row.least ++ codes " " ++ signed_decimal row.greatest ++ codes "\n"
