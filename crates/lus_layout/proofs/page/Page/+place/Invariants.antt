-- Each call goes one step deeper.
use Rattle.lus_layout.proofs.page.Page.+place.Given as goal

abbrev pub decreases-place : goal.decreases-place
decreases-place l = l.depth

abbrev pub decreases-place_prefixed : goal.decreases-place_prefixed
decreases-place_prefixed l = l.depth

abbrev pub decreases-place_parentheses : goal.decreases-place_parentheses
decreases-place_parentheses l = l.depth

abbrev pub decreases-place_chain : goal.decreases-place_chain
decreases-place_chain l = l.depth

abbrev pub decreases-place_when : goal.decreases-place_when
decreases-place_when l = l.depth

abbrev pub decreases-place_arrow : goal.decreases-place_arrow
decreases-place_arrow l = l.depth

abbrev pub decreases-place_behind : goal.decreases-place_behind
decreases-place_behind l = l.depth

abbrev pub decreases-place_if : goal.decreases-place_if
decreases-place_if l = l.depth

abbrev pub decreases-place_then : goal.decreases-place_then
decreases-place_then l = l.depth

abbrev pub decreases-place_low_then : goal.decreases-place_low_then
decreases-place_low_then l = l.depth

abbrev pub decreases-place_else : goal.decreases-place_else
decreases-place_else l = l.depth

abbrev pub decreases-place_list : goal.decreases-place_list
decreases-place_list l = l.depth

abbrev pub decreases-place_structure : goal.decreases-place_structure
decreases-place_structure l = l.depth

abbrev pub decreases-place_merge : goal.decreases-place_merge
decreases-place_merge l = l.depth

abbrev pub decreases-place_branch : goal.decreases-place_branch
decreases-place_branch l = l.depth

abbrev pub decreases-place_field : goal.decreases-place_field
decreases-place_field l = l.depth

abbrev pub decreases-place_low : goal.decreases-place_low
decreases-place_low l = l.depth
