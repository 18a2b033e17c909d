pub mod BytesOfText
