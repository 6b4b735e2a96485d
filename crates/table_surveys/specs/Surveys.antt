-- What a survey becomes by a task that is looked at.
use Rattle.std.specs.Prelude.{ℕ, ◌+◌, ◌-◌, Bool, true, cond, leb}
use Rattle.snapshot.specs.Refusals.{is_past}
use Rattle.table_surveys.specs.declared.Survey.{Survey}

-- K2: "event number plus all turns owed", one task after the other; what is past 65,535 is not added to, so that no sum overflows
abbrev pub end_with : (end owed : ℕ) → ℕ
end_with end owed = cond (is_past end) end (end + owed)

-- s, with this event that all work ends by, and bad or not
abbrev pub survey_with : Survey → (end : ℕ) → (bad : Bool) → Survey
survey_with s end bad =
    record { scan_most = s.scan_most; update_more = s.update_more; event = s.event; end = end; bad = bad }

-- once a task is looked at too that cannot have had most turns (11): until then it owes what is left of these, and more after them
abbrev pub waits_by : Survey → (most more turns : ℕ) → Survey
waits_by s most more turns =
    cond (leb most turns) (survey_with s s.end true) (survey_with s (end_with s.end (most - turns + more)) s.bad)
