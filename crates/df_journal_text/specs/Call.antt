-- How calls are spelled: the words behind the unit's.
use Rattle.std.specs.Prelude.{ℕ, List, [], ◌∷◌, ◌++◌, map, codes, decimal}
use Rattle.df_value_text.specs.Label.{label_text, tag_text, tags_text, privilege_text}
use Rattle.df_value_text.specs.Value.{value_text}
use Rattle.df_filter_text.specs.Filter.{filter_text}
use Rattle.df_priv.specs.declared.need.Half.{Half}
use Rattle.df_priv.specs.declared.need.Half.TheVariants.{S, I}
use Rattle.df_priv.specs.declared.need.Act.{Act}
use Rattle.df_priv.specs.declared.need.Act.TheVariants.{Add, Del}
use Rattle.df_unit.specs.declared.call.Call.{Call}
use Rattle.df_unit.specs.declared.call.Call.TheVariants.{CreateEvent, AddPart, DelPart, ReadPart, CloneEvent, AttachPrivilege, ChangeOutLabel, CreateTag, DropEvent, Subscribe, SubscribeManaged, Get, Publish, Release, ChangeInOut, Instantiate}

-- a half of a label
abbrev pub half_text : Half → List ℕ
half_text S = codes "S"
half_text I = codes "I"

-- what is done with a tag
abbrev pub act_text : Act → List ℕ
act_text Add = codes "add"
act_text Del = codes "del"

-- the words of a call
abbrev pub call_words : Call → List (List ℕ)
call_words CreateEvent = codes "create" ∷ []
call_words (AddPart h label name value) = codes "add" ∷ decimal h ∷ label_text label ∷ name
    ∷ value_text value ∷ []
call_words (DelPart h label name) = codes "del" ∷ decimal h ∷ label_text label ∷ name ∷ []
call_words (ReadPart h name) = codes "read" ∷ decimal h ∷ name ∷ []
call_words (CloneEvent h label) = codes "clone" ∷ decimal h ∷ label_text label ∷ []
call_words (AttachPrivilege h label name p) =
    codes "attach" ∷ decimal h ∷ label_text label ∷ name ∷ privilege_text p ∷ []
call_words (ChangeOutLabel half act tag) = codes "out" ∷ half_text half ∷ act_text act
    ∷ tag_text tag ∷ []
call_words CreateTag = codes "tag" ∷ []
call_words (DropEvent h) = codes "drop" ∷ decimal h ∷ []
call_words (Subscribe filter) = codes "sub" ∷ filter_text filter ∷ []
call_words (SubscribeManaged filter) = codes "msub" ∷ filter_text filter ∷ []
call_words Get = codes "get" ∷ []
call_words (Publish h) = codes "publish" ∷ decimal h ∷ []
call_words (Release h) = codes "release" ∷ decimal h ∷ []
call_words (ChangeInOut half act tag) = codes "inout" ∷ half_text half ∷ act_text act
    ∷ tag_text tag ∷ []
call_words (Instantiate s privileges) = codes "spawn" ∷ (codes "{" ++ tags_text s ++ codes "}")
    ∷ map privilege_text privileges
