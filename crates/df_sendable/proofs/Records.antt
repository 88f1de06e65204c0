-- A record may cross threads where its fields may, also under a type parameter and behind a model.
use denote.Model.{View}
use denote.Struct.Declared as S
use denote.Struct.Field.{rows}
use denote.Struct.Struct.{Struct}
use denote.Param.Send.{AllSend, AllSync, IsSend, IsSync, recorded_send, recorded_sync, struct_send, struct_sync, view_send, view_sync}
use Rattle.std.specs.Coded.{Coded}

module _ (T : S.Declared) where
  pub record_send : AllSend (rows T.parts) → IsSend (S.row T)
  record_send fields = recorded_send (Struct (S.shape T)) T.D T.to T.to_one (struct_send (S.shape T) fields)

  pub record_sync : AllSync (rows T.parts) → IsSync (S.row T)
  record_sync fields = recorded_sync (Struct (S.shape T)) T.D T.to T.to_one (struct_sync (S.shape T) fields)

  -- what a contract sees by a model
  module _ {D : Type 0} {c : Coded D} {view : (S.row T).Denot → D} {holds : (S.row T).Denot → Type 0} where
    pub model_send : AllSend (rows T.parts) → IsSend (View (S.row T) D c view holds)
    model_send fields = view_send (S.row T) D c view holds (record_send fields)

    pub model_sync : AllSync (rows T.parts) → IsSync (View (S.row T) D c view holds)
    model_sync fields = view_sync (S.row T) D c view holds (record_sync fields)
